use Rattle.std.proofs.Common.{◌≡◌, ◌⊎◌, inl, inr, Bool, ℕ, List, ◌∷◌, [], None, Option, Some, ap, refl, subst, sym}
use Rattle.std.specs.{List.AllByRecursion, Prelude.IfSome, Prelude.IsSomeAnd, Prelude.if◌then◌else◌, Str.bytes_eq}
use Rattle.std.proofs.lemmas.Slice.Eq.{bytes_eq-Decides}
use Rattle.dm_finder_frame.specs.Frame.{GridView}
use Rattle.dm_symbol.specs.Correction.{IsNear}
use Rattle.dm_store.specs.Saved.{Saved}
use Rattle.dm_print_ledger.specs.Ledger.{JobView}
use Rattle.relay_streams.specs.Streams.{AppendsPart, InputView}
use Rattle.relay_shared.specs.Command.{ReadsDocument}
use Rattle.relay_desk_commands.specs.Desks.{IsTextOfId}
use Rattle.relay.specs.Program.{path_of}
use Rattle.relay_program_runs.specs.Law.{IsFirstOfItsId, LeavesFile, LetsOut, PrintsUnder, Ran, SomeRan, TakesPrinted, WritesPrinted, passed, writes, writes_nothing}
use Rattle.relay_program_runs.proofs.laws.at_least.Goals as goal

as_one : {X : Type 0} (P : X → Type 0) (o : Option X) (x : X) → o ≡ Some x → IfSome o P → P x
as_one P None x some so = cc (some)
as_one P (Some y) x some so = (let same : y ≡ x = cc (some) in subst P same so)

some_so : {X : Type 0} (P : X → Type 0) (o : Option X) (x : X) → o ≡ Some x → P x → IsSomeAnd o P
some_so {X} P o x is so = subst (λ (p : Option X). IsSomeAnd p P) (sym is) so

takes_near : (A : Type 0) (IsAmong : List ℕ → Type 0) (earlier : List (Ran A)) (ran : Ran A) (own grid : GridView) →
    IsNear grid own → SomeRan (LetsOut IsAmong own) earlier → (passed ran).scanned ≡ grid ∷ [] →
    (passed ran).imported ≡ [] → TakesPrinted IsAmong earlier ran
takes_near A IsAmong earlier ran own grid near out scanned no_file = record {
  scans = λ among. subst (AllByRecursion (λ grid. (own : GridView) × IsNear grid own
      × SomeRan {A = A} (LetsOut IsAmong own) earlier)) (sym scanned) ((own, near, out), tt);
  imports = λ among. subst (AllByRecursion (λ bytes. SomeRan {A = A}
      (λ other. LeavesFile bytes other × IsAmong (path_of other.command)) earlier)) (sym no_file) tt;
}

takes_files : (A : Type 0) (IsAmong : List ℕ → Type 0) (earlier : List (Ran A)) (ran : Ran A) (one other : List ℕ) →
    SomeRan (λ its. LeavesFile one its × IsAmong (path_of its.command)) earlier →
    SomeRan (λ its. LeavesFile other its × IsAmong (path_of its.command)) earlier → (passed ran).scanned ≡ [] →
    (passed ran).imported ≡ one ∷ other ∷ [] → TakesPrinted IsAmong earlier ran
takes_files A IsAmong earlier ran one other left_one left_other no_grid imported = record {
  scans = λ among. subst (AllByRecursion (λ grid. (own : GridView) × IsNear grid own
      × SomeRan {A = A} (LetsOut IsAmong own) earlier)) (sym no_grid) tt;
  imports = λ among. subst (AllByRecursion (λ bytes. SomeRan {A = A}
      (λ its. LeavesFile bytes its × IsAmong (path_of its.command)) earlier)) (sym imported) (left_one, (left_other, tt));
}

no_other : (A : Type 0) (earlier : List (Ran A)) (ran : Ran A) (job : JobView) → IsFirstOfItsId earlier ran →
    (passed ran).printed ≡ Some job → ¬ SomeRan (λ other. IsSomeAnd (passed other).printed (λ its. its.id ≡ job.id)) earlier
no_other A earlier ran job first is = as_one (λ (j : JobView).
    ¬ SomeRan {A = A} (λ other. IsSomeAnd (passed other).printed (λ its. its.id ≡ j.id)) earlier) _ job is first

was_read : (A : Type 0) (id : ℕ) (document : List ℕ) (ran : Ran A) → PrintsUnder id document ran →
    (rest : InputView) × ReadsDocument ran.before.streams.input rest document
was_read A id document ran p = (p.rest, p.read)

was_printed : (A : Type 0) (earlier : List (Ran A)) (text : List ℕ) (ran : Ran A) → WritesPrinted earlier text ran →
    (ran.after.streams.output ≡ ran.before.streams.output)
    ⊎ ((id : ℕ) × (document : List ℕ) × IsTextOfId text id × SomeRan (PrintsUnder id document) earlier
    × AppendsPart ran.before.streams.output.contents ran.after.streams.output.contents document)
was_printed A earlier text ran (writes_nothing nothing) = inl nothing.0
was_printed A earlier text ran (writes id document is printed part) = inr (id, document, is, printed, part.0)

own_of : (path : List ℕ) (own other : Saved) → (if bytes_eq path path then own else other) ≡ own
own_of path own other = ap (λ (b : Bool). if b then own else other) ((bytes_eq-Decides path path).1 refl)

pub returns : goal.returns
returns g c = record {
  place = λ ran files. refl;
  label = λ among ran job i grid is there. inl (some_so _ _ job is (i, there));
  copied = λ among ran grid is here. inr (is, here);
  near = λ among. takes_near _ _;
  first = no_other _;
  read = was_read _;
  written = was_printed _;
  exported = λ bytes ran is. inl is;
  kept = λ key bytes ran is. inr (key, is);
  files = λ among. takes_files _ _;
  free = λ ran id bytes shown first is reads has. (
    ran.after.files.joint,
    (0, first, refl, sym (own_of (path_of ran.command) ran.after.files.joint first)),
    (shown, record { bytes = bytes; content = is; reads = reads }, has),
  );
  awaits = λ giver ran ticket id bytes shown first given has is reads number awaits. (
    (0, giver, refl, given),
    has,
    (
      path_of ran.command,
      ran.after.files.joint,
      (0, first, refl, sym (own_of (path_of ran.command) ran.after.files.joint _)),
      (shown, record { bytes = bytes; content = is; reads = reads }, number, awaits),
    ),
  );
  prints = λ site ran job is. (0, ran, refl, some_so _ _ job is refl);
}
