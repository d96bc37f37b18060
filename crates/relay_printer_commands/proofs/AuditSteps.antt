-- What an audit tells, gathers and keeps, step by step, and what its silence says.
use Rattle.std.proofs.Common.{◌≡◌, ◌<◌, ◌+◌, ◌++◌, ◌∷◌, ◌∙◌, ℕ, Bool, Bor, true, false, List, [], Some, ap, append-nil, append_assoc, arith, get_or, inl, inr, sym, length, map, refl, take}
use Rattle.std.specs.Prelude.{◌==◌, ◌||◌, ◌≢◌, ◌↔◌, IfSome, IsSomeAnd, IsTrue, MatchOption, MatchResult, Option, None, Result, Ok, Err, codes, not, option_map, slice_get}
use Rattle.std.specs.{List.AllByRecursion, List.flat_map, List.list_any, Option.option_map_or}
use Rattle.std.proofs.KnownBytes.{Appends-nil, Appends-trans}
use Rattle.std.proofs.lemmas.{Bool.cases_Bool, Bool.cond-false, Bool.and_left, Bool.cond-true, Bool.eq-eqb, Bool.not-true, Bool.or_parts, List.Concat.flat_map-append, List.Elements.filter-append, List.Folds.flat_map-map, List.map-append, List.take_more, Option.slice_get-get_or, Option.slice_get-map}
use Rattle.dm_print_ledger.specs.{Ledger.TicketView, Ledger.are_ranges, Verdicts.SilenceIsExact, Verdicts.lacks_ticket, Verdicts.share_numbers, Verdicts.share_ticket, Verdicts.shown_of_ticket}
use Rattle.relay_printer_commands.specs.Printers.{AreAllSound, AuditSays.all as says_all, AuditSays.no_memory, EvidenceView, Gathers, HasGathered, IsSoundPair, ShowsFile, ShowsLine, TellsAudit, TellsLines, are_same, audit_lines, breach_line, breach_lines, evidence_name, kept, pair_lines, shows_none, Gathers.file, Gathers.line, IsSoundPair.beside as beside_one, IsSoundPair.same, ShowsLine.refused, ShowsLine.ticket}
use Rattle.relay_printer_commands.specs.inner.Kept.{may_clash, ticket_evidence, with_tickets}
use Rattle.relay_printer_commands.specs.declared.audit.LineTicket.{LineTicket}
use Rattle.relay_shared.proofs.Telling.{told_else}
use Rattle.relay_shared.specs.Command.{FileView, PutsText, Tells, refusal_name}
use Rattle.relay_shared.specs.declared.command.Refusal.TheVariants.{Memory}
use Rattle.relay_streams.proofs.Parts.{part_after, part_more}
use Rattle.relay_streams.specs.{Streams.OutputView, Streams.StaysFailed, Streams.refused_line, declared.fault.WriteFault.WriteFault}

-- ---- lines one after another

pub nothing : (now : OutputView) → TellsLines [] now false now
nothing now = (refl, inl (Appends-nil _, refl), λ failed. refl)

pub nothing_of : {text : List ℕ} (now : OutputView) → text ≡ [] → TellsLines text now false now
nothing_of now none = rw none (nothing now)

any_both : (a b : List ℕ) → (not (length a == 0) || not (length b == 0)) ≡ not (length (a ++ b) == 0)
any_both [] b = refl
any_both (x ∷ a) b = grind arith

told_both : {a b : List ℕ} (old mid new : OutputView) → Tells a 1 old 1 mid → Tells b 1 mid 1 new →
    (mid.has_failed ≡ true → new ≡ mid) → Tells (a ++ b) 1 old 1 new
told_both old mid new (inl first) (inl next) stuck = inl (Appends-trans _ _ _ _ _ first.0 next.0, refl)
told_both old mid new (inl first) (inr next) stuck = inr (next.0, part_after _ _ _ _ _ first.0 next.1, refl)
told_both old mid new (inr first) next stuck = rw (stuck first.0) (inr (first.0, part_more _ _ _ _ first.1, refl))

pub both : {a b : List ℕ} {x y : Bool} (old mid new : OutputView) → TellsLines a old x mid → TellsLines b mid y new →
    TellsLines (a ++ b) old (x || y) new
both {a} {b} old mid new first next = (rw (first.0, next.0) (any_both a b), told_both old mid new first.1 next.1 next.2, λ failed. next.2 (rw (first.2 failed) failed) ∙ first.2 failed)

pub put_once : (text : List ℕ) (old new : OutputView) (put : Result (Unit {0}) WriteFault) → PutsText text old put new →
    StaysFailed old put new → TellsLines text old (not (length text == 0)) new
put_once text old new put puts stuck = (refl, told_else put puts, λ failed. (stuck failed).1)

-- the lines of one more
pub told_next : {X : Type 0} (lines_of : X → List ℕ) (xs : List X) (i : ℕ) (x : X) {told more : Bool} (old mid new : OutputView) →
    i < length xs → x ≡ get_or xs i x → TellsLines (flat_map lines_of (take i xs)) old told mid →
    TellsLines (lines_of x) mid more new → TellsLines (flat_map lines_of (take (i + 1) xs)) old (told || more) new
told_next lines_of xs i x old mid new there is before next = rw (
  take_more xs i x there,
  ← is,
  flat_map-append lines_of (take i xs) (x ∷ []),
  append-nil (lines_of x),
) (both old mid new before next)

-- one more that has no line
pub quiet_next : {X : Type 0} (lines_of : X → List ℕ) (xs : List X) (i : ℕ) (x : X) {told : Bool} (old new : OutputView) →
    i < length xs → x ≡ get_or xs i x → lines_of x ≡ [] → TellsLines (flat_map lines_of (take i xs)) old told new →
    TellsLines (flat_map lines_of (take (i + 1) xs)) old told new
quiet_next lines_of xs i x old new there is none before = rw (
  take_more xs i x there,
  ← is,
  flat_map-append lines_of (take i xs) (x ∷ []),
  none,
  append-nil (flat_map lines_of (take i xs)),
) before

abbrev pub is_kept : EvidenceView → Bool
is_kept one = length one.fault == 0

-- ---- one more

-- what is sound is kept, or one was lost
abbrev Keeps : Option (List EvidenceView) → List EvidenceView → Type 0
Keeps sound all = MatchOption sound (kept all ≢ []) (λ some. some ≡ kept all)

-- what a file or a line shows was kept, or none is any more; or why it shows nothing was told
abbrev pub Tries : {X : Type 0} → List ℕ → ℕ → Result X (Bor (List ℕ)) → Option (List X) → OutputView → Bool
    → Option (List X) → OutputView → Type 0
Tries list place seen sound mid more grown new = MatchResult seen
    (λ one. (more ≡ false) × (new ≡ mid) × IfSome grown (λ all. IsSomeAnd sound (λ some. all ≡ some ++ one ∷ [])))
    (λ name. (more ≡ true) × (grown ≡ sound) × TellsLines (shows_none list place name.now).fault mid true new)

told_more : (all : List EvidenceView) (one : EvidenceView) {told more : Bool} (old mid new : OutputView) →
    TellsLines (flat_map (λ one. one.fault) all) old told mid → TellsLines one.fault mid more new →
    TellsLines (flat_map (λ one. one.fault) (all ++ one ∷ [])) old (told || more) new
told_more all one old mid new before next = rw (flat_map-append (λ one. one.fault) all (one ∷ []), append-nil one.fault)
    (both old mid new before next)

kept_one : (all : List EvidenceView) (one : EvidenceView) → one.fault ≡ [] → kept (all ++ one ∷ []) ≡ kept all ++ one ∷ []
kept_one all one none = filter-append is_kept all (one ∷ [])
    ∙ ap (λ some. kept all ++ some) (cond-true (is_kept one) (one ∷ []) [] (eq-eqb _ _ (ap length none)))

kept_none : (all : List EvidenceView) (one : EvidenceView) → not (length one.fault == 0) ≡ true → kept (all ++ one ∷ []) ≡ kept all
kept_none all one some = filter-append is_kept all (one ∷ []) ∙ rw (
  cond-false (is_kept one) (one ∷ []) [] (not-true _ some),
  append-nil (kept all),
) refl

has_one : {X : Type 0} (xs : List X) (x : X) → xs ++ x ∷ [] ≢ []
has_one [] x e = absurd (cc)
has_one (y ∷ xs) x e = absurd (cc)

kept_more : (sound grown : Option (List EvidenceView)) (all : List EvidenceView) (one other : EvidenceView) → Keeps sound all →
    other.fault ≡ [] → IfSome sound (λ some. some ≡ kept all → other ≡ one) →
    IfSome grown (λ more. IsSomeAnd sound (λ some. more ≡ some ++ one ∷ [])) → Keeps grown (all ++ other ∷ [])
kept_more sound None all one other keeps none alike grows = rw (kept_one all other none) (has_one (kept all) other)
kept_more (Some some) (Some more) all one other keeps none alike grows =
    grows ∙ ap (λ xs. xs ++ one ∷ []) keeps ∙ ap (λ x. kept all ++ x ∷ []) (sym (alike keeps)) ∙ sym (kept_one all other none)
kept_more None (Some more) all one other keeps none alike grows = absurd grows

same_one : (sound : Option (List EvidenceView)) (all : List EvidenceView) (one : EvidenceView) →
    IfSome sound (λ some. some ≡ kept all → one ≡ one)
same_one None all one = tt
same_one (Some some) all one = λ e. refl

pub one_more : (files : List FileView) (lines : List (List ℕ)) (n k m j : ℕ) (list : List ℕ) (place : ℕ)
    (seen : Result EvidenceView (Bor (List ℕ))) (sound grown : Option (List EvidenceView)) (told more : Bool)
    (old mid new : OutputView) (Shows : EvidenceView → Type 0) →
    ((one : EvidenceView) → Shows one → (all : List EvidenceView) → Gathers files lines n k all → (other : EvidenceView)
    × (other.fault ≡ one.fault) × IfSome sound (λ some. some ≡ kept all → other ≡ one) × Gathers files lines m j (all ++ other ∷ [])) →
    HasGathered files lines n k sound old told mid →
    MatchResult seen (λ one. (one.fault ≡ []) × Shows one) (λ name. Shows (shows_none list place name.now)) →
    Tries list place seen sound mid more grown new → HasGathered files lines m j grown old (told || more) new
one_more files lines n k m j list place (Ok one) sound grown told more old mid new Shows next (all, gathers, keeps, tells) shows does =
    let (other, fault, alike, gathered) = next one shows.1 all gathers in
    let none : other.fault ≡ [] = fault ∙ shows.0 in (
      _,
      gathered,
      kept_more sound grown all one other keeps none alike does.2,
      rw (does.0, does.1) (told_more all other old mid mid tells (rw none (nothing mid))),
    )
one_more files lines n k m j list place (Err name) sound grown told more old mid new Shows next (all, gathers, keeps, tells) shows does =
    let (other, fault, alike, gathered) = next (shows_none list place name.now) shows all gathers in (
      _,
      gathered,
      rw (does.1, kept_none all other (rw fault (sym does.2.0))) keeps,
      rw (does.0) (told_more all other old mid new tells (rw fault does.2)),
    )

pub one_more_file : {F : Type 0} (known : F → FileView) (files : List F) (lines : List (List ℕ)) (i : ℕ) (given : F)
    (seen : Result EvidenceView (Bor (List ℕ))) (sound grown : Option (List EvidenceView)) (told more : Bool)
    (old mid new : OutputView) → i < length files → given ≡ get_or files i given →
    HasGathered (map known files) lines i 0 sound old told mid →
    MatchResult seen (λ one. (one.fault ≡ []) × ShowsFile (i + 1) (known given) one)
    (λ name. ShowsFile (i + 1) (known given) (shows_none (codes "file") (i + 1) name.now)) →
    Tries (codes "file") (i + 1) seen sound mid more grown new →
    HasGathered (map known files) lines (i + 1) 0 grown old (told || more) new
one_more_file known files lines i given seen sound grown told more old mid new there is = one_more (map known files) lines i 0
    (i + 1) 0 (codes "file") (i + 1) seen sound grown told more old mid new (ShowsFile (i + 1) (known given)) (λ one shows all gathers. (
      one,
      refl,
      same_one sound all one,
      file (known given) gathers (slice_get-map known files i ∙
          ap (option_map known) (slice_get-get_or files i given there ∙ ap (λ x. Some x) (sym is))) shows,
    ))

-- the same ticket is lacked among both
abbrev AreLackedAlike : List EvidenceView → List EvidenceView → Type 0
AreLackedAlike before now = (its : TicketView) →
    list_any (λ one. lacks_ticket one.shown its) before ≡ list_any (λ one. lacks_ticket one.shown its) now

-- tickets lack no ticket
none_lack : (its : TicketView) (tickets : List LineTicket) →
    list_any (λ one. lacks_ticket one.shown its) (map ticket_evidence tickets) ≡ false
none_lack its [] = refl
none_lack its (one ∷ tickets) = none_lack its tickets

ledgers_lack : (ledgers : List EvidenceView) (tickets : List LineTicket) →
    AreLackedAlike ledgers (ledgers ++ map ticket_evidence tickets)
ledgers_lack [] tickets its = sym (none_lack its tickets)
ledgers_lack (one ∷ ledgers) tickets its = ap (λ some. lacks_ticket one.shown its || some) (ledgers_lack ledgers tickets its)

-- a line shows as much whatever is before it, but for whether its ticket is open
beside : (before now : List EvidenceView) (place : ℕ) (text : List ℕ) (one : EvidenceView) → ShowsLine before place text one →
    (other : EvidenceView) × (other.fault ≡ one.fault) × (AreLackedAlike before now → other ≡ one) × ShowsLine now place text other
beside before now place text one (ticket its has is) = (
  _,
  refl,
  λ alike. ap (λ is_open. record {
    place = place;
    fault = [];
    ticket = Some its;
    shown = shown_of_ticket its is_open;
  }) (sym (alike its)),
  ticket its has is,
)
beside before now place text one (refused none) = (_, refl, λ alike. refl, refused none)

same_sound : (ledgers : Option (List EvidenceView)) (tickets : Option (List LineTicket)) (before now : List EvidenceView)
    (one other : EvidenceView) → IfSome ledgers (λ some. before ≡ some) → (AreLackedAlike before now → other ≡ one) →
    IfSome (with_tickets ledgers tickets) (λ some. some ≡ now → other ≡ one)
same_sound None tickets before now one other is alike = tt
same_sound (Some ledgers) None before now one other is alike = tt
same_sound (Some ledgers) (Some tickets) before now one other is alike = λ e. alike (λ its.
    ap (list_any (λ one. lacks_ticket one.shown its)) is ∙ ledgers_lack ledgers tickets its
    ∙ ap (list_any (λ one. lacks_ticket one.shown its)) e)

grown_after : (ledgers : Option (List EvidenceView)) (sound grown : Option (List LineTicket)) (one : LineTicket) →
    IfSome grown (λ all. IsSomeAnd sound (λ some. all ≡ some ++ one ∷ [])) →
    IfSome (with_tickets ledgers grown) (λ all. IsSomeAnd (with_tickets ledgers sound) (λ some. all ≡ some ++ ticket_evidence one ∷ []))
grown_after None sound grown one grows = tt
grown_after (Some ledgers) sound None one grows = tt
grown_after (Some ledgers) None (Some all) one grows = absurd grows
grown_after (Some ledgers) (Some some) (Some all) one grows = ap (λ xs. ledgers ++ map ticket_evidence xs) grows
    ∙ ap (λ xs. ledgers ++ xs) (map-append ticket_evidence some (one ∷ [])) ∙ sym (append_assoc ledgers (map ticket_evidence some) _)

-- what a line shows is after all that the ledgers show
shows_line : (files : List FileView) (lines : List (List ℕ)) (k : ℕ) (text : List ℕ) (before : List EvidenceView)
    (ledgers : Option (List EvidenceView)) (sound : Option (List LineTicket)) → slice_get lines k ≡ Some text → length text ≢ 0 →
    IfSome ledgers (λ some. before ≡ some) → (one : EvidenceView) → ShowsLine before (k + 1) text one →
    (all : List EvidenceView) → Gathers files lines (length files) k all → (other : EvidenceView)
    × (other.fault ≡ one.fault) × IfSome (with_tickets ledgers sound) (λ some. some ≡ kept all → other ≡ one)
    × Gathers files lines (length files) (k + 1) (all ++ other ∷ [])
shows_line files lines k text before ledgers sound at some is one shows all gathers =
    let (other, fault, alike, now) = beside before (kept all) (k + 1) text one shows in
    (other, fault, same_sound ledgers sound before (kept all) one other is alike, line text gathers at some now)

pub one_more_line : (files : List FileView) (lines : List (List ℕ)) (k : ℕ) (text : List ℕ)
    (seen : Result LineTicket (Bor (List ℕ))) (before : List EvidenceView) (ledgers : Option (List EvidenceView))
    (sound grown : Option (List LineTicket)) (told more : Bool) (old mid new : OutputView) →
    slice_get lines k ≡ Some text → length text ≢ 0 → IfSome ledgers (λ some. before ≡ some) →
    HasGathered files lines (length files) k (with_tickets ledgers sound) old told mid →
    MatchResult seen (λ one. ShowsLine before (k + 1) text (ticket_evidence one))
    (λ name. ShowsLine before (k + 1) text (shows_none (codes "line") (k + 1) name.now)) →
    Tries (codes "line") (k + 1) seen sound mid more grown new →
    HasGathered files lines (length files) (k + 1) (with_tickets ledgers grown) old (told || more) new
one_more_line files lines k text (Ok one) before ledgers sound grown told more old mid new at some is so_far shows does =
    one_more files lines (length files) k (length files) (k + 1) (codes "line") (k + 1) (Ok (ticket_evidence one))
    (with_tickets ledgers sound) (with_tickets ledgers grown) told more old mid new (ShowsLine before (k + 1) text)
    (shows_line files lines k text before ledgers sound at some is) so_far (refl, shows)
    (does.0, does.1, grown_after ledgers sound grown one does.2)
one_more_line files lines k text (Err name) before ledgers sound grown told more old mid new at some is so_far shows does =
    one_more files lines (length files) k (length files) (k + 1) (codes "line") (k + 1) (Err name)
    (with_tickets ledgers sound) (with_tickets ledgers grown) told more old mid new (ShowsLine before (k + 1) text)
    (shows_line files lines k text before ledgers sound at some is) so_far shows
    (does.0, ap (with_tickets ledgers) does.1, does.2)

-- ---- silence

both_none : (xs ys : List ℕ) → xs ++ ys ≡ [] → (xs ≡ []) × (ys ≡ [])
both_none [] ys e = (refl, e)
both_none (x ∷ xs) ys e = absurd (cc)

none_both : (xs ys : List ℕ) → xs ≡ [] → ys ≡ [] → xs ++ ys ≡ []
none_both [] ys e f = f
none_both (x ∷ xs) ys e f = absurd (cc)

no_breach : (is : Bool) (kind : List ℕ) (one other : EvidenceView) → breach_line is kind one other ≡ [] → is ≡ false
no_breach false kind one other e = refl
no_breach true kind one other e =
    let none : 32 ∷ (evidence_name one ++ (32 ∷ (evidence_name other ++ 10 ∷ []))) ≡ [] = (both_none kind _ e).1 in
    absurd (cc)

none_faulty : (evidence : List EvidenceView) → flat_map (λ one. one.fault) evidence ≡ [] → kept evidence ≡ evidence
none_faulty [] none = refl
none_faulty (one ∷ later) none = let fault = both_none one.fault _ none in
    cond-true (is_kept one) _ _ (eq-eqb _ _ (ap length fault.0)) ∙ ap (λ some. one ∷ some) (none_faulty later fault.1)

regrouped : (a b c d : List ℕ) → ((a ++ b) ++ c) ++ d ≡ a ++ ((b ++ c) ++ d)
regrouped a b c d = simp append_assoc

-- the pairs of one ledger are those with later ledgers, and then those with tickets
pub pairs_next : (one : EvidenceView) (later : List EvidenceView) (tickets : List LineTicket) (text all : List ℕ) →
    text ++ pair_lines (one ∷ (later ++ map ticket_evidence tickets)) ≡ all →
    ((text ++ flat_map (breach_lines one) later) ++ flat_map (λ its. breach_lines one (ticket_evidence its)) tickets)
    ++ pair_lines (later ++ map ticket_evidence tickets) ≡ all
pairs_next one later tickets text all rest =
    let ledgers : List ℕ = flat_map (breach_lines one) later in
    let two = flat_map-append (breach_lines one) later (map ticket_evidence tickets)
    ∙ ap (λ xs. ledgers ++ xs) (flat_map-map (breach_lines one) ticket_evidence tickets) in
    regrouped text ledgers _ _ ∙ ap (λ xs. text ++ (xs ++ pair_lines (later ++ map ticket_evidence tickets))) (sym two) ∙ rest

-- ledgers, and no ticket yet
pub no_ticket_yet : (files : List FileView) (lines : List (List ℕ)) (n k : ℕ) (sound : Option (List EvidenceView)) {told : Bool}
    (old new : OutputView) → HasGathered files lines n k sound old told new →
    HasGathered files lines n k (with_tickets sound (Some [])) old told new
no_ticket_yet files lines n k None old new gathered = gathered
no_ticket_yet files lines n k (Some some) old new (all, gathers, keeps, told) = (all, gathers, append-nil some ∙ keeps, told)

-- what is told of all that was kept, or that memory was refused
pub said_after : (files : List FileView) (lines : List (List ℕ)) (sound : Option (List EvidenceView)) {told more : Bool}
    (old mid new : OutputView) → HasGathered files lines (length files) (length lines) sound old told mid →
    TellsLines (option_map_or pair_lines sound (refused_line (refusal_name Memory))) mid more new →
    TellsAudit files lines old (told || more) new
said_after files lines (Some some) old mid new (all, gathers, keeps, told) tells =
    (_, says_all all gathers, both old mid new told (rw keeps at tells))
said_after files lines None old mid new (all, gathers, keeps, told) tells =
    (_, no_memory all gathers keeps, both old mid new told tells)

-- of two tickets that share nothing nothing is said
pub no_clash : (one other : LineTicket) → may_clash (ticket_evidence one) (ticket_evidence other) ≡ false →
    breach_lines (ticket_evidence one) (ticket_evidence other) ≡ []
no_clash one other none =
    let a = ticket_evidence one in
    let b = ticket_evidence other in
    let apart = or_parts (share_ticket a.shown b.shown) (share_numbers a.shown b.shown) none in
    elim (cases_Bool (are_same a b)) [
      | inl is ↦ cond-true (are_same a b) _ _ is
      | inr is ↦ cond-false (are_same a b) _ _ is ∙ none_both _ _ (none_both _ _ (none_both _ _ (none_both _ _ refl
          (cond-false _ _ _ apart.1)) (cond-false _ _ _ (and_left (share_ticket a.shown b.shown) _ apart.0))) refl) refl
    ]

module _ (exact : SilenceIsExact) where
  -- two of which nothing is said
  sound_pair : (one other : EvidenceView) → IsTrue (are_ranges one.shown.free) → IsTrue (are_ranges other.shown.free) →
      breach_lines one other ≡ [] → IsSoundPair one other
  sound_pair one other ranges its e = elim (cases_Bool (are_same one other)) [
    | inl is ↦ same is
    | inr is ↦
        let b = both_none _ _ (sym (cond-false (are_same one other) _ _ is) ∙ e) in
        let a = both_none _ _ b.0 in
        let g = both_none _ _ a.0 in
        let f = both_none _ _ g.0 in
        beside_one ((exact one.shown other.shown ranges its).0.0 (record {
          numbers = no_breach _ (codes "number") one other f.0;
          apart = no_breach _ (codes "free") one other f.1;
          ahead = no_breach _ (codes "behind") one other a.1;
          other_ahead = no_breach _ (codes "behind") other one b.1;
        })) (no_breach _ (codes "again") one other g.1)
  ]

  silent_pair : (one other : EvidenceView) → IsTrue (are_ranges one.shown.free) → IsTrue (are_ranges other.shown.free) →
      IsSoundPair one other → breach_lines one other ≡ []
  silent_pair one other ranges its (same is) = cond-true (are_same one other) _ _ is
  silent_pair one other ranges its (beside_one sound again) = elim (cases_Bool (are_same one other)) [
    | inl is ↦ cond-true (are_same one other) _ _ is
    | inr is ↦
        let none = (exact one.shown other.shown ranges its).0.1 sound in
        cond-false (are_same one other) _ _ is ∙ none_both _ _ (none_both _ _ (none_both _ _ (none_both _ _
        (cond-false _ _ _ none.numbers) (cond-false _ _ _ none.apart)) (cond-false _ _ _ again))
        (cond-false _ _ _ none.ahead)) (cond-false _ _ _ none.other_ahead)
  ]

  pairs : (one : EvidenceView) (later : List EvidenceView) → IsTrue (are_ranges one.shown.free) →
      AllByRecursion (λ other. IsTrue (are_ranges other.shown.free)) later →
      (flat_map (breach_lines one) later ≡ []) ↔ AllByRecursion (IsSoundPair one) later
  pairs one [] ranges its = (λ e. tt, λ sound. refl)
  pairs one (other ∷ later) ranges its = (
    λ e. let two = both_none (breach_lines one other) _ e in
        (sound_pair one other ranges its.0 two.0, (pairs one later ranges its.1).0 two.1),
    λ sound. none_both _ _ (silent_pair one other ranges its.0 sound.0) ((pairs one later ranges its.1).1 sound.1),
  )

  all : (evidence : List EvidenceView) → AllByRecursion (λ one. IsTrue (are_ranges one.shown.free)) evidence →
      ((flat_map (λ one. one.fault) evidence ≡ []) × (pair_lines evidence ≡ [])) ↔ AreAllSound evidence
  all [] ranges = (λ e. tt, λ sound. (refl, refl))
  all (one ∷ later) ranges = (
    λ e. let fault = both_none one.fault _ e.0 in let pair = both_none (flat_map (breach_lines one) later) _ e.1 in
        (fault.0, (pairs one later ranges.0 ranges.1).0 pair.0, (all later ranges.1).0 (fault.1, pair.1)),
    λ sound. let rest = (all later ranges.1).1 sound.2 in
        (none_both one.fault _ sound.0 rest.0, none_both _ _ ((pairs one later ranges.0 ranges.1).1 sound.1) rest.1),
  )

  pub exactly : (evidence : List EvidenceView) → AllByRecursion (λ one. IsTrue (are_ranges one.shown.free)) evidence →
      (audit_lines evidence ≡ []) ↔ AreAllSound evidence
  exactly evidence ranges = (
    λ e. let none = both_none (flat_map (λ one. one.fault) evidence) _ e in
        (all evidence ranges).0 (none.0, rw (none_faulty evidence none.0) at none.1),
    λ sound. let none = (all evidence ranges).1 sound in none_both _ _ none.0 (rw (none_faulty evidence none.0) none.1),
  )
