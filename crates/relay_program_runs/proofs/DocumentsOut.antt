-- What comes out of a line that delivers all documents of a desk: each is saved as the file of its ID.
use Rattle.std.proofs.Common.{◌≡◌, ◌≢◌, ◌++◌, ◌∷◌, ◌⊎◌, inl, inr, Bool, ℕ, zero, suc, max, slice_get, List, [], Some, refl, sym, ap, subst, ◌∙◌, arith}
use Rattle.std.proofs.lemmas.{List.append_cancel_left, Slice.Eq.bytes_eq-Decides}
use Rattle.std.specs.{Borrow.Bor, Prelude.IsTrue, Prelude.map, List.AllByRecursion, Str.bytes_eq}
use Rattle.relay_command.specs.declared.command.Command.{Command}
use Rattle.relay_command.specs.declared.command.Command.TheVariants.{Deliver}
use Rattle.relay_shared.specs.Files.{DeskFiles}
use Rattle.relay_desk_commands.specs.declared.documents.Given.TheVariants.{Document}
use Rattle.relay.specs.Places.{HoldNothing, PlacesView}
use Rattle.relay.specs.Program.{DoesAndSaves, GivesEach, SystemView, next_id, no_id}
use Rattle.relay_program_runs.specs.Law.{DeliversPrinted, Each, Ran}
use Rattle.relay_program_runs.specs.Lines.{SavesTheDocument, givers_in, in_folder, ran_at}
use Rattle.relay_program_runs.proofs.{DocumentOut.PrintIt, DocumentOut.one_more, DocumentOut.save_out, LinePaths.decided}

pub each_in : {X : Type 0} (P : X → Type 0) (xs : List X) → ((x : X) (i : ℕ) → slice_get xs i ≡ Some x → P x) →
    AllByRecursion P xs
each_in P [] so = tt
each_in P (x ∷ xs) so = (so x zero refl, each_in P xs (λ y i is. so y (suc i) is))

pub of_map : {X Y : Type 0} (P : Y → Type 0) (f : X → Y) (xs : List X) → AllByRecursion P (map f xs) →
    AllByRecursion (λ (x : X). P (f x)) xs
of_map P f [] all = tt
of_map P f (x ∷ xs) all = (all.0, of_map P f xs all.1)

max_left : (one other : ℕ) → max one other ≡ 0 → one ≡ 0
max_left one other is = grind (arith, is)

max_right : (one other : ℕ) → max one other ≡ 0 → other ≡ 0
max_right one other is = grind (arith, is)

not_first : (later : List (List ℕ)) (first text : List ℕ) (one others : ℕ) → first ≢ text →
    ((i : ℕ) → slice_get later i ≡ Some text → others ≢ 0) → (i : ℕ) → slice_get (first ∷ later) i ≡ Some text →
    max one others ≢ 0
not_first later first text one others apart fail zero is none = apart (cc (is))
not_first later first text one others apart fail (suc i) is none = fail i is (max_right one others none)

one_name : (folder one other : List ℕ) → in_folder folder one ≡ in_folder folder other → one ≡ other
one_name folder one other same =
    let names : 47 ∷ one ≡ 47 ∷ other = append_cancel_left folder (47 ∷ one) (47 ∷ other) same in cc (names)

-- What is saved elsewhere leaves a path as it is. At the path itself something is saved only where nothing was.
module _ (path : List ℕ) where
  abbrev SavedThere : List ℕ → SystemView → SystemView → Type 0
  SavedThere other old now = (path ≡ other) × HoldNothing (old.places path)
      × ((now.places path).joint.is_honest ≡ (old.places path).joint.is_honest)

  step_at : (A : Type 0) (command : Command) (other : List ℕ) (old now : SystemView) (status : ℕ)
      (to : DoesAndSaves A command other old status now) → to.done.places path ≡ old.places path →
      (now.places path ≡ old.places path) ⊎ SavedThere other old now
  step_at A command other old now status to kept = elim to.saves [
    | inl (fails, is, same) ↦ inl (ap (λ (s : SystemView). s.places path) same ∙ kept)
    | inr (well, saves) ↦ elim saves.saves [
      | inl (same, fault) ↦ inl (ap (λ (p : PlacesView). p path) same ∙ kept)
      | inr (holds, replaces, set, keeps) ↦
          elim (decided (bytes_eq path other) path other (bytes_eq-Decides path other)) [
            | inl is ↦ inr (
              is,
              subst (λ (f : DeskFiles). HoldNothing f) kept
                  (subst (λ (p : List ℕ). HoldNothing (to.done.places p)) (sym is) holds),
              subst (λ (p : List ℕ). (now.places p).joint.is_honest ≡ (to.done.places p).joint.is_honest) (sym is)
                  replaces.same_honesty ∙ ap (λ (f : DeskFiles). f.joint.is_honest) kept,
            )
            | inr apart ↦ inl (keeps path apart ∙ kept)
          ]
    ]
  ]

  honest_at : (other : List ℕ) (old now : SystemView) → (now.places path ≡ old.places path) ⊎ SavedThere other old now →
      IsTrue (old.places path).joint.is_honest → IsTrue (now.places path).joint.is_honest
  honest_at other old now (inl same) honest = subst (λ (f : DeskFiles). IsTrue f.joint.is_honest) (sym same) honest
  honest_at other old now (inr saved) honest = subst (λ (b : Bool). IsTrue b) (sym saved.2) honest

  there_at : (document other : List ℕ) (old now : SystemView) →
      (now.places path ≡ old.places path) ⊎ SavedThere other old now → IsTrue (old.places path).joint.is_honest →
      (old.places path).joint.content ≡ Some document → now.places path ≡ old.places path
  there_at document other old now (inl same) honest there = same
  there_at document other old now (inr saved) honest there = let none = saved.1.0 honest in cc (none, there)

module _ (A : Type 0) (IsIt : List ℕ → List ℕ → Type 0) (IsAmong : List ℕ → Type 0) (file folder text : List ℕ)
    (among : IsAmong file) (apart : in_folder folder text ≢ file) where
  abbrev pub its_path : List ℕ
  its_path = in_folder folder text

  step : (from id : Bor (List ℕ)) (old now : SystemView) (status : ℕ) → from.now ≡ file →
      (to : DoesAndSaves A (Deliver from id) (in_folder folder id.now) old status now) →
      (now.places its_path ≡ old.places its_path) ⊎ SavedThere its_path (in_folder folder id.now) old now
  step from id old now status at to = step_at its_path A (Deliver from id) (in_folder folder id.now) old now status to
      (to.does.is_at.2 its_path (λ same. apart (same ∙ at)))

  -- a document that is there stays
  stays_now : (document : List ℕ) (from id : Bor (List ℕ)) (old now : SystemView) (status : ℕ) → from.now ≡ file →
      (to : DoesAndSaves A (Deliver from id) (in_folder folder id.now) old status now) →
      IsTrue (old.places its_path).joint.is_honest → (old.places its_path).joint.content ≡ Some document →
      now.places its_path ≡ old.places its_path
  stays_now document from id old now status at to =
      there_at its_path document (in_folder folder id.now) old now (step from id old now status at to)

  stays : {ids : List (List ℕ)} {old new : SystemView} {status : ℕ} (document : List ℕ) →
      GivesEach A Document file folder ids old status new → IsTrue (old.places its_path).joint.is_honest →
      (old.places its_path).joint.content ≡ Some document → (new.places its_path).joint.content ≡ Some document
  stays document no_id honest there = there
  stays document (next_id from id at to later) honest there =
      let same = stays_now document from id _ _ _ at to honest there in
      stays document later (subst (λ (f : DeskFiles). IsTrue f.joint.is_honest) (sym same) honest)
      (ap (λ (f : DeskFiles). f.joint.content) same ∙ there)

  -- its own command saves it
  own : (earlier : List (Ran A)) → PrintIt IsIt earlier → (from id : Bor (List ℕ)) (old now : SystemView) (status : ℕ) →
      from.now ≡ file → (to : DoesAndSaves A (Deliver from id) (in_folder folder id.now) old status now) →
      DeliversPrinted IsAmong earlier (ran_at to.does) → id.now ≡ text → SavesTheDocument (IsIt text) its_path old status now
  own earlier print from id old now status at to delivers is =
      subst (λ (t : List ℕ). SavesTheDocument (IsIt t) (in_folder folder t) old status now) is
      (save_out A earlier IsIt print (Deliver from id) id.now (in_folder folder id.now) old now status to
      (to.does.is_at.2 (in_folder folder id.now) (λ same. apart (ap (λ (t : List ℕ). in_folder folder t) (sym is) ∙ same ∙ at)))
      (delivers (subst IsAmong (sym at) among))).1

  -- another command leaves its file
  elsewhere : (id : Bor (List ℕ)) (old now : SystemView) → id.now ≢ text →
      (now.places its_path ≡ old.places its_path) ⊎ SavedThere its_path (in_folder folder id.now) old now →
      now.places its_path ≡ old.places its_path
  elsewhere id old now other (inl same) = same
  elsewhere id old now other (inr saved) = absurd (other (sym (one_name folder text id.now saved.0)))

  -- its file at the end, if these IDs are given
  abbrev pub Comes : List (List ℕ) → SystemView → ℕ → SystemView → Type 0
  Comes ids old status new = (((i : ℕ) → slice_get ids i ≡ Some text → status ≢ 0)
      × ((new.places its_path).joint.content ≡ (old.places its_path).joint.content))
      ⊎ ((document : List ℕ) × IsIt text document × ((new.places its_path).joint.content ≡ Some document))

  comes_next : (earlier : List (Ran A)) → PrintIt IsIt earlier → (from id : Bor (List ℕ)) (ids : List (List ℕ))
      (old now new : SystemView) (one others : ℕ) (at : from.now ≡ file)
      (to : DoesAndSaves A (Deliver from id) (in_folder folder id.now) old one now) →
      GivesEach A Document file folder ids now others new → DeliversPrinted IsAmong earlier (ran_at to.does) →
      IsTrue (old.places its_path).joint.is_honest →
      (IsTrue (now.places its_path).joint.is_honest → Comes ids now others new) → Comes (id.now ∷ ids) old (max one others) new
  comes_next earlier print from id ids old now new one others at to later delivers honest others_come =
      let took = step from id old now one at to in
      let now_honest = honest_at its_path (in_folder folder id.now) old now took honest in
      elim (decided (bytes_eq id.now text) id.now text (bytes_eq-Decides id.now text)) [
        | inl is ↦ elim (own earlier print from id old now one at to delivers is honest) [
          | inl (fails, same) ↦ elim (others_come now_honest) [
            | inl (others_fail, kept) ↦ inl (λ i has none. fails (max_left one others none), kept ∙ same)
            | inr saved ↦ inr saved
          ]
          | inr (document, it, there) ↦ inr (document, it, stays document later now_honest there)
        ]
        | inr other ↦ elim (others_come now_honest) [
          | inl (others_fail, kept) ↦ inl (
            not_first ids id.now text one others other others_fail,
            kept ∙ ap (λ (f : DeskFiles). f.joint.content) (elsewhere id old now other took),
          )
          | inr saved ↦ inr saved
        ]
      ]

  pub comes : {ids : List (List ℕ)} {old new : SystemView} {status : ℕ}
      (each : GivesEach A Document file folder ids old status new) (earlier rest : List (Ran A)) → PrintIt IsIt earlier →
      Each (DeliversPrinted IsAmong) earlier (givers_in each ++ rest) → IsTrue (old.places its_path).joint.is_honest →
      Comes ids old status new
  comes no_id earlier rest print delivers honest = inl (λ i is none. cc (is), refl)
  comes (next_id from id at to later) earlier rest print delivers honest =
      comes_next earlier print from id _ _ _ _ _ _ at to later delivers.0 honest
      (λ now_honest. comes later (earlier ++ ran_at to.does ∷ []) rest
      (one_more IsIt earlier (ran_at to.does) refl print) delivers.1 now_honest)
