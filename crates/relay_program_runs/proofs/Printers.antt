-- The ledgers and the machine's printers, once commands ran: a printer for each number, whose range the list makes.
use Rattle.std.proofs.Common.{◌≡◌, ◌⊎◌, ◌+◌, ◌≤◌, ◌++◌, inl, inr, true, ℕ, zero, suc, List, [], ◌∷◌, None, Option, Some, length, map, slice_get, slice_set, refl, sym, ap, subst, ◌∙◌, arith, eq-eqb}
use Rattle.std.specs.Prelude.{◌==◌, IfSome, IsSomeAnd}
use Rattle.std.specs.Option.{option_to_list}
use Rattle.std.proofs.lemmas.List.{append-nil, length-map, length-set}
use Rattle.dm_finder_frame.specs.Frame.{GridView}
use Rattle.dm_append_label.specs.Labels.{Carries, PageView}
use Rattle.dm_store.specs.Saved.{Saved}
use Rattle.dm_print_ledger.specs.{declared.range.Range.Range, Verdicts.opening, Ledger.JobView, Ledger.TicketView}
use Rattle.dm_print_ledger.proofs.LedgerLaws.{opening_sound}
use Rattle.dm_event_history.specs.Relay.{CutDocument, Label, Move, Relay, Running, Used, fresh_from, start}
use Rattle.dm_event_history.specs.Steps.{IsRun, Moment}
use Rattle.dm_event_history.specs.Headline.{AreDisjoint, ArePrinted, RelayIsSound, gone, one_if}
use Rattle.dm_event_history.proofs.{Deciding.same_or_other, Gotten.get_more, Gotten.in_either, Gotten.set_at}
use Rattle.dm_event_history.proofs.{Headline.each_run_is_sound, Numbers.gone_more}
use Rattle.dm_event_world.proofs.{Changing.at_place, Mapped.get_map_from}
use Rattle.relay_command.specs.declared.command.Command.{Command}
use Rattle.relay_desk_commands.specs.Desks.{OnDesk}
use Rattle.relay_runs.specs.Runs.{FollowsRun, IsOfJob, KeepsLedger, grids_in, grids_of}
use Rattle.relay_runs.proofs.Places.{set_there}
use Rattle.relay_printer_commands.specs.Printers.{images_of}
use Rattle.relay_streams.specs.Streams.{AppendsPart}
use Rattle.relay_program_runs.specs.Law.{Halts, IsBlank, IsFirstOfItsId, IsOnePart, PrintsUnder, Ran, SomeRan, StoreAt, all_made, at_its_path, cut_short, exited, passed, passed_at}
use Rattle.relay_program_runs.specs.Passed.{Made, made_by}
use Rattle.relay_program_runs.proofs.Effects.{Effect, HoldsSo, Taken, effect, follows, idle, makes, out_of, unmade}
use Rattle.relay_program_runs.proofs.Lists.{at_length, before_or_now, made_more, one_before, one_now}
use Rattle.relay_shared.specs.Command.{FileView}

-- ---- what is so once commands ran

-- a job with this ID was answered
abbrev pub HasId : {A : Type 0} → ℕ → Ran A → Type 0
HasId id ran = IsSomeAnd (passed ran).printed (λ its. its.id ≡ id)

abbrev pub HasLabel : {A : Type 0} → GridView → Ran A → Type 0
HasLabel grid ran = IsSomeAnd (passed ran).printed (λ job. (i : ℕ) × (slice_get job.labels i ≡ Some grid))

abbrev pub Gave : {A : Type 0} → TicketView → Ran A → Type 0
Gave ticket ran = (passed ran).given ≡ Some ticket

-- a ledger of this number was made
abbrev pub WasMade : List Made → ℕ → Type 0
WasMade made number = (i : ℕ) × (one : Made) × (slice_get made i ≡ Some one) × (one.number ≡ number)

-- a label that left stands there
abbrev pub LeftAs : Relay → GridView → Type 0
LeftAs relay grid = (number : ℕ) × (label : Label) × (slice_get relay.labels number ≡ Some label) × (label.grid ≡ grid)

-- which printer's ledger each store holds, if any, and that a run of the machine led there
pub record Stands (A : Type 0) (ranges : List Range) (earlier : List (Ran A)) (site : List StoreAt) : Type 0 where
  pub moments : List (Moment A)
  pub relay : Relay
  pub run : IsRun (start ranges []) moments relay
  pub numbers : List (Option ℕ)
  pub count : length site ≡ length numbers
  pub each : (place : ℕ) (at : StoreAt) (o : Option ℕ) → slice_get site place ≡ Some at → slice_get numbers place ≡ Some o →
      HoldsSo relay at.saved o
  pub once : (p q number : ℕ) → slice_get numbers p ≡ Some (Some number) → slice_get numbers q ≡ Some (Some number) → p ≡ q
  pub fresh : (number : ℕ) (range : Range) → slice_get ranges number ≡ Some range →
      ((p : ℕ) → slice_get numbers p ≡ Some (Some number) → ⊥) →
      slice_get relay.printers number ≡ Some (Running (opening number range))
  pub made : (p number : ℕ) → slice_get numbers p ≡ Some (Some number) → WasMade (all_made earlier) number
  pub gave : (ticket : TicketView) → SomeRan (Gave ticket) earlier →
      (it : ℕ) × (slice_get relay.tickets it ≡ Some ticket)
  pub printed : (number : ℕ) (label : Label) → slice_get relay.labels number ≡ Some label →
      SomeRan (PrintsUnder label.page.id label.cut.bytes) earlier
  pub grids : (grid : GridView) → SomeRan (HasLabel grid) earlier → LeftAs relay grid
  pub used : (id : ℕ) → SomeRan (HasId id) earlier → 1 ≤ gone relay.moves id

-- ---- some lists

if_none : {X : Type 0} (P : X → Type 0) (o : Option X) → o ≡ None → IsSomeAnd o P → ⊥
if_none P None none is = absurd is
if_none P (Some x) none is = cc (none)

some_as : {X : Type 0} (P : X → Type 0) (o : Option X) → IsSomeAnd o P → (x : X) × (o ≡ Some x) × P x
some_as P None is = absurd is
some_as P (Some x) is = (x, refl, is)

nothing_there : {X : Type 0} (i : ℕ) (x : X) → (let xs : List X = [] in slice_get xs i ≡ Some x) → ⊥
nothing_there i x there = cc (there)

pub nothing_ran : {A : Type 0} (P : Ran A → Type 0) → SomeRan P [] → ⊥
nothing_ran P s = nothing_there s.0 s.1 s.2

grid_there : (grids : List GridView) (labels : List Label) → grids_of labels ≡ grids → (i : ℕ) (grid : GridView) →
    slice_get grids i ≡ Some grid → (label : Label) × (slice_get labels i ≡ Some label) × (label.grid ≡ grid)
grid_there grids labels same i grid there = get_map_from (λ (label : Label). label.grid) labels i grid
    (ap (λ (gs : List GridView). slice_get gs i) same ∙ there)

after_some : {X : Type 0} (xs ys : List X) (i : ℕ) (x : X) → slice_get ys i ≡ Some x → (j : ℕ) × (slice_get (xs ++ ys) j ≡ Some x)
after_some [] ys i x there = (i, there)
after_some (z ∷ zs) ys i x there = let rest = after_some zs ys i x there in (suc rest.0, rest.1)

-- ---- the beginning

get_fresh : (from i : ℕ) (ranges : List Range) (range : Range) → slice_get ranges i ≡ Some range →
    slice_get (fresh_from from ranges) i ≡ Some (Running (opening (from + i) range))
get_fresh from i [] range there = cc (there)
get_fresh from zero (one ∷ ranges) range there =
    let same : one ≡ range = cc (there) in
    let number : from ≡ from + 0 = omega arith in cc (same, number)
get_fresh from (suc i) (one ∷ ranges) range there =
    let number : from + 1 + i ≡ from + suc i = omega arith in
    get_fresh (from + 1) i ranges range there ∙ ap (λ (n : ℕ). Some (Running (opening n range))) number

none_at : (site : List StoreAt) (p : ℕ) (o : Option ℕ) →
    slice_get (map (λ (at : StoreAt). let o : Option ℕ = None in o) site) p ≡ Some o → o ≡ None
none_at site p o there = sym (get_map_from (λ (at : StoreAt). let o : Option ℕ = None in o) site p o there).2

pub begun : (A : Type 0) (ranges : List Range) (site : List StoreAt) →
    ((place : ℕ) (at : StoreAt) → slice_get site place ≡ Some at → IsBlank None at.saved) → Stands A ranges [] site
begun A ranges site blank = record {
  moments = [];
  relay = start ranges [];
  run = refl;
  numbers = map (λ (at : StoreAt). None) site;
  count = sym (length-map site (λ (at : StoreAt). let o : Option ℕ = None in o));
  each = λ place at o there is.
      let b = blank place at there in
      subst (HoldsSo (start ranges []) at.saved) (sym (none_at site place o is)) (b.honest, b.empty);
  once = λ p q number a b. absurd (let none = none_at site p (Some number) a in cc (none));
  fresh = λ number range there none.
      get_fresh 0 number ranges range there
      ∙ ap (λ (n : ℕ). Some (Running (opening n range))) (let same : 0 + number ≡ number = omega arith in same);
  made = λ p number a. absurd (let none = none_at site p (Some number) a in cc (none));
  gave = λ ticket s. absurd (nothing_ran _ s);
  printed = λ number label there. absurd (nothing_there number label there);
  grids = λ grid s. absurd (nothing_ran _ s);
  used = λ id s. absurd (nothing_ran _ s);
}

-- ---- one more command

pub runs_on : {A : Type 0} (first : Relay) (earlier : List (Moment A)) (mid : Relay) (later : List (Moment A))
    (end : Relay) → IsRun first earlier mid → IsRun mid later end → IsRun first (later ++ earlier) end
runs_on {A} first earlier mid [] end one other = subst (IsRun first earlier) (sym other) one
runs_on first earlier mid (moment ∷ later) end one other =
    (runs_on first earlier mid later moment.before one other.0, other.1)

pub other_there : {X : Type 0} (xs : List X) (i j : ℕ) (x : X) → (j ≡ i → ⊥) →
    slice_get (slice_set xs i x) j ≡ slice_get xs j
other_there [] i j x isnt = refl
other_there (z ∷ zs) zero zero x isnt = absurd (isnt refl)
other_there (z ∷ zs) zero (suc j) x isnt = refl
other_there (z ∷ zs) (suc i) zero x isnt = refl
other_there (z ∷ zs) (suc i) (suc j) x isnt = other_there zs i j x (λ e. isnt (ap suc e))

-- ---- what a command does

effect_at : (A : Type 0) (relay : Relay) (command : Command) {inputs : List FileView} (before after : OnDesk)
    (ends : Halts A command inputs before after) (o : Option ℕ) → HoldsSo relay before.files.joint o →
    Taken relay (passed_at ends).taken →
    Effect A relay o command before after (passed_at ends)
effect_at A relay command {inputs} before after (exited status does) o holds left =
    effect A relay inputs before after status command does o holds left
effect_at A relay command {inputs} before after (cut_short status does) o holds left =
    effect A relay inputs before after status command does o holds left

out_at : (A : Type 0) (command : Command) {inputs : List FileView} (before after : OnDesk)
    (ends : Halts A command inputs before after) (job : JobView) → (passed_at ends).printed ≡ Some job →
    AppendsPart before.streams.output.contents after.streams.output.contents (images_of job.labels)
out_at A command {inputs} before after (exited status does) job is =
    out_of A inputs before after status command does job is
out_at A command {inputs} before after (cut_short status does) job is =
    out_of A inputs before after status command does job is

-- what is so once it ran: more labels may have left
pub record OneMore (A : Type 0) (ranges : List Range) (earlier : List (Ran A)) (relay : Relay) (ran : Ran A)
    (next : List StoreAt) : Type 0 where
  pub stands : Stands A ranges (earlier ++ ran ∷ []) next
  pub first : IsFirstOfItsId earlier ran
  pub more : List Label
  pub labels : stands.relay.labels ≡ relay.labels ++ more

no_first : {A : Type 0} (earlier : List (Ran A)) (ran : Ran A) → (passed ran).printed ≡ None → IsFirstOfItsId earlier ran
no_first earlier ran none = by (passed ran).printed none
  where
    by : (o : Option JobView) → o ≡ None → IfSome o (λ job.
        ¬ SomeRan (λ other. IsSomeAnd (passed other).printed (λ its. its.id ≡ job.id)) earlier)
    by None is = tt
    by (Some job) is = absurd (cc (is))

-- ---- once it ran

module _ (A : Type 0) (ranges : List Range) (earlier : List (Ran A)) (site : List StoreAt) (s : Stands A ranges earlier site)
    (ran : Ran A) (place : ℕ) (found : slice_get site place ≡ Some (at_its_path ran ran.before.files.joint)) where
  abbrev now : List (Ran A)
  now = earlier ++ ran ∷ []

  abbrev next : List StoreAt
  next = slice_set site place (at_its_path ran ran.after.files.joint)

  pub its_number : (o : Option ℕ) × (slice_get s.numbers place ≡ Some o)
  its_number = let its = at_place site s.numbers place (at_its_path ran ran.before.files.joint) s.count found in (its.0, its.1)

  pub holds : HoldsSo s.relay ran.before.files.joint its_number.0
  holds = s.each place (at_its_path ran ran.before.files.joint) its_number.0 found its_number.1

  as_many : length next ≡ length s.numbers
  as_many = length-set site place (at_its_path ran ran.after.files.joint) ∙ s.count

  made_now : (number : ℕ) → WasMade (all_made earlier) number → WasMade (all_made now) number
  made_now number (i, one, there, is) = (
    i,
    one,
    cc (made_more earlier ran, get_more (all_made earlier) (made_by ran.command ran.before ran.after) i one there),
    is,
  )

  -- nothing was printed, or given
  module _ (no_job : (passed ran).printed ≡ None) (no_ticket : (passed ran).given ≡ None) where
    -- these stores hold ledgers of these numbers
    stays : (numbers : List (Option ℕ)) → length next ≡ length numbers →
        ((place : ℕ) (at : StoreAt) (o : Option ℕ) → slice_get next place ≡ Some at → slice_get numbers place ≡ Some o →
        HoldsSo s.relay at.saved o) →
        ((p q number : ℕ) → slice_get numbers p ≡ Some (Some number) → slice_get numbers q ≡ Some (Some number) → p ≡ q) →
        ((number : ℕ) (range : Range) → slice_get ranges number ≡ Some range →
        ((p : ℕ) → slice_get numbers p ≡ Some (Some number) → ⊥) →
        slice_get s.relay.printers number ≡ Some (Running (opening number range))) →
        ((p number : ℕ) → slice_get numbers p ≡ Some (Some number) → WasMade (all_made now) number) →
        Stands A ranges now next
    stays numbers count each once fresh made = record {
      moments = s.moments;
      relay = s.relay;
      run = s.run;
      numbers = numbers;
      count = count;
      each = each;
      once = once;
      fresh = fresh;
      made = made;
      gave = λ ticket some. elim (before_or_now (Gave ticket) earlier ran some) [
        | inl old ↦ s.gave ticket old
        | inr new ↦ absurd (cc (no_ticket, new))
      ];
      printed = λ number label there. one_before _ earlier ran (s.printed number label there);
      grids = λ grid some. elim (before_or_now (HasLabel grid) earlier ran some) [
        | inl old ↦ s.grids grid old
        | inr new ↦ absurd (if_none _ (passed ran).printed no_job new)
      ];
      used = λ id some. elim (before_or_now (HasId id) earlier ran some) [
        | inl old ↦ s.used id old
        | inr new ↦ absurd (if_none _ (passed ran).printed no_job new)
      ];
    }

    -- the store holds what it did, or as good as
    still_holds : HoldsSo s.relay ran.after.files.joint its_number.0 → Stands A ranges now next
    still_holds here = stays s.numbers as_many
        (λ p at o there is. elim (set_at site place p (at_its_path ran ran.after.files.joint) at there) [
          | inl same ↦
              let o_is : its_number.0 ≡ o = cc (its_number.1, is, same.0) in
              subst (λ (a : StoreAt). HoldsSo s.relay a.saved o) same.1
              (subst (HoldsSo s.relay ran.after.files.joint) o_is here)
          | inr other ↦ s.each p at o other.1 is
        ])
        s.once s.fresh (λ p number is. made_now number (s.made p number is))

    -- a ledger was made
    module _ (number : ℕ) (range : Range) (none : its_number.0 ≡ None)
        (is_one : made_by ran.command ran.before ran.after ≡ record { number = number; range = range } ∷ [])
        (in_ranges : slice_get ranges number ≡ Some range) (first : (p : ℕ) → slice_get s.numbers p ≡ Some (Some number) → ⊥)
        (keeps : KeepsLedger ran.after.files.joint (Running (opening number range))) where
      abbrev numbered : List (Option ℕ)
      numbered = slice_set s.numbers place (Some number)

      here_once : (q other : ℕ) → slice_get numbered q ≡ Some (Some other) → (place ≡ q → ⊥) →
          slice_get s.numbers q ≡ Some (Some other)
      here_once q other is isnt = sym (other_there s.numbers place q (Some number) (λ e. isnt (sym e))) ∙ is

      mine : (q other : ℕ) → slice_get numbered q ≡ Some (Some other) → place ≡ q → number ≡ other
      mine q other is same = cc (set_there s.numbers place its_number.0 (Some number) its_number.1, is, same)

      numbered_once : (p q other : ℕ) → slice_get numbered p ≡ Some (Some other) → slice_get numbered q ≡ Some (Some other) →
          p ≡ q
      numbered_once p q other a b = by_place (same_or_other place p) (same_or_other place q)
        where
          by_place : ((place ≡ p) ⊎ (place ≡ p → ⊥)) → ((place ≡ q) ⊎ (place ≡ q → ⊥)) → p ≡ q
          by_place (inl e) (inl f) = sym e ∙ f
          by_place (inl e) (inr isnt) = absurd (first q (subst (λ (n : ℕ). slice_get s.numbers q ≡ Some (Some n))
              (sym (mine p other a e)) (here_once q other b isnt)))
          by_place (inr isnt) (inl f) = absurd (first p (subst (λ (n : ℕ). slice_get s.numbers p ≡ Some (Some n))
              (sym (mine q other b f)) (here_once p other a isnt)))
          by_place (inr isnt) (inr isnt_too) =
              s.once p q other (here_once p other a isnt) (here_once q other b isnt_too)

      makes_one : Stands A ranges now next
      makes_one = stays numbered (as_many ∙ sym (length-set s.numbers place (Some number)))
          (λ p at o there is. elim (set_at site place p (at_its_path ran ran.after.files.joint) at there) [
            | inl same ↦
                let here = set_there s.numbers place its_number.0 (Some number) its_number.1 in
                let o_is : Some number ≡ o = cc (here, is, same.0) in
                subst (λ (a : StoreAt). HoldsSo s.relay a.saved o) same.1 (subst (HoldsSo s.relay ran.after.files.joint) o_is
                (Running (opening number range), s.fresh number range in_ranges first, keeps))
            | inr other ↦ s.each p at o other.1
                (sym (other_there s.numbers place p (Some number) (λ e. other.0 (sym e))) ∙ is)
          ])
          numbered_once
          (λ other its there unmade. s.fresh other its there (λ p is. elim (same_or_other place p) [
            | inl e ↦ absurd (cc (its_number.1, is, e, none))
            | inr isnt ↦ unmade p (other_there s.numbers place p (Some number) (λ e. isnt (sym e)) ∙ is)
          ]))
          (λ p other is. elim (same_or_other place p) [
            | inl e ↦ (
              length (all_made earlier),
              record { number = number; range = range },
              cc (made_more earlier ran, is_one, at_length (all_made earlier) (record { number = number; range = range })),
              mine p other is e,
            )
            | inr isnt ↦ made_now other (s.made p other (here_once p other is isnt))
          ])

  -- ---- its printer was called

  module _ (disjoint : AreDisjoint ranges) (number : ℕ) (is_number : its_number.0 ≡ Some number)
      (f : FollowsRun A s.relay number ran.before.streams.input ran.after.files.joint (passed ran).printed
      (passed ran).given)
      (out : (job : JobView) → (passed ran).printed ≡ Some job →
      AppendsPart ran.before.streams.output.contents ran.after.streams.output.contents (images_of job.labels)) where
    whole : IsRun (start ranges []) (f.moments ++ s.moments) f.after
    whole = runs_on (start ranges []) s.moments s.relay f.moments f.after s.run f.runs.run

    sound_after : RelayIsSound f.after
    sound_after = (each_run_is_sound A ranges [] (f.moments ++ s.moments) f.after disjoint whole).0

    moved : (id : ℕ) → gone f.after.moves id ≡ gone s.relay.moves id + gone f.goods.moves id
    moved id = ap (λ (r : Relay). gone r.moves id) f.runs.after_is ∙ gone_more s.relay.moves f.goods.moves id

    used_one : (id : ℕ) → gone (Used id ∷ []) id ≡ 1
    used_one id = let same : (id == id) ≡ true = eq-eqb id id refl in ap (λ b. one_if b + 0) same

    -- its ID was not used before
    uses_new : (job : JobView) → (passed ran).printed ≡ Some job → (gone s.relay.moves job.id ≡ 0) × (gone f.after.moves job.id ≡ 1)
    uses_new job is =
        let one : gone f.goods.moves job.id ≡ 1 =
        ap (λ (ms : List Move). gone ms job.id) (f.used job is) ∙ used_one job.id in
        let all = moved job.id in
        let most : gone f.after.moves job.id ≤ 1 = (let apart = sound_after.apart job.id in omega arith) in
        (omega arith, omega arith)

    first_of_its_id : IsFirstOfItsId earlier ran
    first_of_its_id = by (passed ran).printed refl
      where
        by : (o : Option JobView) → (passed ran).printed ≡ o → IfSome o (λ job.
            ¬ SomeRan (λ other. IsSomeAnd (passed other).printed (λ its. its.id ≡ job.id)) earlier)
        by None is = tt
        by (Some job) is = λ before. let one = s.used job.id before in let none = (uses_new job is).0 in omega arith

    other_printer : (other : ℕ) → (other ≡ number → ⊥) → slice_get f.after.printers other ≡ slice_get s.relay.printers other
    other_printer other isnt = ap (λ (r : Relay). slice_get r.printers other) f.runs.after_is
        ∙ other_there s.relay.printers number other f.runs.actor isnt

    -- the number stands at this place alone
    away : (p other : ℕ) → (place ≡ p → ⊥) → slice_get s.numbers p ≡ Some (Some other) → other ≡ number → ⊥
    away p other isnt is same = isnt (s.once place p number (cc (its_number.1, is_number)) (cc (is, same)))

    still_elsewhere : (p : ℕ) (saved : Saved) (o : Option ℕ) → (place ≡ p → ⊥) → slice_get s.numbers p ≡ Some o →
        HoldsSo s.relay saved o → HoldsSo f.after saved o
    still_elsewhere p saved None isnt is h = h
    still_elsewhere p saved (Some other) isnt is (actor, there, keeps) =
        (actor, other_printer other (away p other isnt is) ∙ there, keeps)

    labels_are : f.after.labels ≡ s.relay.labels ++ f.goods.labels
    labels_are = ap (λ (r : Relay). r.labels) f.runs.after_is

    there_after : (i : ℕ) (label : Label) → slice_get f.goods.labels i ≡ Some label →
        (n : ℕ) × (slice_get f.after.labels n ≡ Some label)
    there_after i label there =
        let a = after_some s.relay.labels f.goods.labels i label there in (a.0, cc (labels_are, a.1))

    label_new : (i : ℕ) (label : Label) → slice_get f.goods.labels i ≡ Some label →
        PrintsUnder label.page.id label.cut.bytes ran
    label_new i label there =
        let its : IsOfJob ran.before.streams.input (passed ran).printed label = f.printed i label there in
        let at = there_after i label there in
        record {
          rest = its.rest;
          read = its.read;
          job = its.it;
          job_is = its.job_is;
          id_is = sym its.id_is;
          size = label.cut.size;
          scheme = label.cut.scheme;
          parts = label.cut.parts;
          are_parts = (are_printed at.0 label at.1).are_parts;
          labels = λ k grid has. each_page k grid its at (grid_there its.it.labels f.goods.labels (f.labels ∙ ap grids_in its.job_is) k grid has);
          written = out its.it its.job_is;
        }
      where
        are_printed : ArePrinted f.after.labels
        are_printed = (each_run_is_sound A ranges [] (f.moments ++ s.moments) f.after disjoint whole).1

        -- a label of the job carries a part of the document, since labels of one ID are cut from one
        each_page : (k : ℕ) (grid : GridView) (its : IsOfJob ran.before.streams.input (passed ran).printed label)
            (at : (n : ℕ) × (slice_get f.after.labels n ≡ Some label))
            (has : (own : Label) × (slice_get f.goods.labels k ≡ Some own) × (own.grid ≡ grid)) →
            (page : PageView) × Carries page grid × (page.id ≡ label.page.id) × IsOnePart label.cut.parts page
        each_page k grid its at (own, own_there, grid_is) =
            let of : IsOfJob ran.before.streams.input (passed ran).printed own = f.printed k own own_there in
            let same_job : Some of.it ≡ Some its.it = sym of.job_is ∙ its.job_is in
            let job : of.it ≡ its.it = cc (same_job) in
            let id : own.page.id ≡ label.page.id = of.id_is ∙ ap (λ (j : JobView). j.id) job ∙ sym its.id_is in
            let here = there_after k own own_there in
            let one = are_printed here.0 own here.1 in
            let cut = sound_after.one_document here.0 at.0 own label here.1 at.1 id in (
              own.page,
              subst (Carries own.page) grid_is one.carries,
              id,
              subst (λ (c : CutDocument). IsOnePart c.parts own.page) cut
                  (record { place = one.place; m_is = one.m_is; n_is = one.n_is; part = one.part }),
            )

    tickets_are : f.after.tickets ≡ s.relay.tickets ++ f.goods.tickets
    tickets_are = ap (λ (r : Relay). r.tickets) f.runs.after_is

    old_label : (grid : GridView) → LeftAs s.relay grid → LeftAs f.after grid
    old_label grid (n, label, there, is) =
        (n, label, cc (labels_are, get_more s.relay.labels f.goods.labels n label there), is)

    new_label : (grid : GridView) → HasLabel grid ran → LeftAs f.after grid
    new_label grid has =
        let j = some_as _ (passed ran).printed has in
        let same : grids_of f.goods.labels ≡ j.0.labels = f.labels ∙ ap grids_in j.1 in
        let g = grid_there j.0.labels f.goods.labels same j.2.0 grid j.2.1 in
        let a = there_after j.2.0 g.0 g.1 in (a.0, g.0, a.1, g.2)

    called : Stands A ranges now next
    called = record {
      moments = f.moments ++ s.moments;
      relay = f.after;
      run = whole;
      numbers = s.numbers;
      count = as_many;
      each = λ p at o there is. elim (set_at site place p (at_its_path ran ran.after.files.joint) at there) [
        | inl same ↦
            let o_is : Some number ≡ o = cc (its_number.1, is, same.0, is_number) in
            subst (λ (a : StoreAt). HoldsSo f.after a.saved o) same.1 (subst (HoldsSo f.after ran.after.files.joint) o_is
            (f.runs.actor, f.runs.there, f.runs.keeps))
        | inr other ↦ still_elsewhere p at.saved o (λ e. other.0 e) is (s.each p at o other.1 is)
      ];
      once = s.once;
      fresh = λ other range there unmade. other_printer other (λ e. unmade place (cc (its_number.1, is_number, e)))
          ∙ s.fresh other range there unmade;
      made = λ p other is. made_now other (s.made p other is);
      gave = λ ticket some. elim (before_or_now (Gave ticket) earlier ran some) [
        | inl old ↦
            let t = s.gave ticket old in
            (t.0, cc (tickets_are, get_more s.relay.tickets f.goods.tickets t.0 ticket t.1))
        | inr new ↦
            let one : f.goods.tickets ≡ ticket ∷ [] = f.tickets ∙ ap (option_to_list {X = TicketView}) new in
            let at : slice_get f.goods.tickets 0 ≡ Some ticket = ap (λ (ts : List TicketView). slice_get ts 0) one in
            let a = after_some s.relay.tickets f.goods.tickets 0 ticket at in
            (a.0, cc (tickets_are, a.1))
      ];
      printed = λ n label there. elim (in_either s.relay.labels f.goods.labels n label
          (cc (labels_are, there))) [
            | inl old ↦ one_before _ earlier ran (s.printed n label old)
            | inr new ↦ one_now _ earlier ran (label_new new.0 label new.2)
          ];
      grids = λ grid some. elim (before_or_now (HasLabel grid) earlier ran some) [
        | inl old ↦ old_label grid (s.grids grid old)
        | inr new ↦ new_label grid new
      ];
      used = λ id some. elim (before_or_now (HasId id) earlier ran some) [
        | inl old ↦ let one = s.used id old in let all = moved id in omega arith
        | inr new ↦
            let j = some_as _ (passed ran).printed new in
            subst (λ (n : ℕ). 1 ≤ gone f.after.moves n) j.2 (let one = (uses_new j.0 j.1).1 in omega arith)
      ];
    }

  -- ---- whatever the command

  -- where it printed nothing no label leaves
  unprinted : (passed ran).printed ≡ None → (stands : Stands A ranges now next) → stands.relay ≡ s.relay →
      OneMore A ranges earlier s.relay ran next
  unprinted no_job stands same = record {
    stands = stands;
    first = no_first earlier ran no_job;
    more = [];
    labels = ap (λ (r : Relay). r.labels) same ∙ sym (append-nil s.relay.labels);
  }

  module _ (disjoint : AreDisjoint ranges)
      (made_apart : (one : Made) → made_by ran.command ran.before ran.after ≡ one ∷ [] →
      (slice_get ranges one.number ≡ Some one.range) × (WasMade (all_made earlier) one.number → ⊥))
      (left : Taken s.relay (passed ran).taken) where
    by_effect : Effect A s.relay its_number.0 ran.command ran.before ran.after (passed ran) →
        OneMore A ranges earlier s.relay ran next
    unfolding still_holds stays makes_one called
    by_effect (idle same no_job no_ticket) = unprinted no_job (still_holds no_job no_ticket
        (subst (λ (j : Saved). HoldsSo s.relay j its_number.0) (sym same) holds)) refl
    by_effect (unmade none honest content no_job no_ticket) = unprinted no_job (still_holds no_job no_ticket
        (subst (HoldsSo s.relay ran.after.files.joint) (sym none) (honest, content))) refl
    by_effect (makes number range none honest ranged content is_one no_job no_ticket) =
        let its = made_apart (record { number = number; range = range }) is_one in
        unprinted no_job (makes_one no_job no_ticket number range none is_one its.0 (λ p is. its.1 (s.made p number is))
        (record { honest = honest; sound = opening_sound number range ranged; content = content })) refl
    by_effect (follows number is f) =
        let out = out_at A ran.command ran.before ran.after ran.ends in
        record {
          stands = called disjoint number is f out;
          first = first_of_its_id disjoint number is f out;
          more = f.goods.labels;
          labels = ap (λ (r : Relay). r.labels) f.runs.after_is;
        }

    pub one_more : OneMore A ranges earlier s.relay ran next
    one_more = by_effect (effect_at A s.relay ran.command ran.before ran.after ran.ends its_number.0 holds left)
