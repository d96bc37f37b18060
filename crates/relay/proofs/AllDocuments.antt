-- What is given of all documents of a desk: the opening, and for each document a command that gives it alone.
use Rattle.std.proofs.Common.{◌≡◌, ◌<◌, ◌+◌, ◌-◌, ◌++◌, ◌∷◌, ◌∙◌, false, ℕ, List, [], Option, None, Some, Result, Ok, length, get_or, drop, map, max, inl, inr, refl, sym, ap, subst, append-nil, arith}
use Rattle.std.proofs.lemmas.{List.drop_more, List.length-map, List.Elements.All-get_or}
use Rattle.std.specs.{Borrow.Bor, Io.KnownBytes.Keeps, Prelude.All, Prelude.IfSome, Prelude.MatchOption}
use Rattle.std.proofs.KnownBytes.{Keeps-refl}
use Rattle.dm_assembly_desk.specs.{Documents.DeskView, declared.limits.TheConstants.MOST_CAPACITY}
use Rattle.relay_shared.specs.Files.{DeskFiles}
use Rattle.relay_desk_commands.specs.Desks.{EndsAtDesk.no_desk, EndsAtDesk.opened, EndsGiving, EndsOnId.of_id, EndsOpening, HasNoDesk, IsTextOfId, OnDesk, OpensDesk, Yields}
use Rattle.relay_desk_commands.specs.declared.documents.Given.{Given, TheVariants.Document, TheVariants.File}
use Rattle.dm_store.specs.{Saved.SavedSet, declared.store.StoreFault.StoreFault}
use Rattle.relay_desk_commands.proofs.Reopened.{reopens}
use Rattle.relay_desk_commands.specs.declared.all_documents.GivenDocument.{GivenDocument}
use Rattle.relay_shared.specs.Lines.{id_text}
use Rattle.relay_places.specs.Places.{KeepsOthers, PlacesView, SavesNew}
use Rattle.relay_buffers.specs.Buffers.{IsPartOut}
use Rattle.relay_places.specs.Notes.{note_line}
use Rattle.relay.specs.{Program.Does, Program.DoesAndSaves, Program.DoesAt, Program.GivesEach, Program.IsAt, Program.Notes, Program.NotesIncomplete, Program.OpensBetween, Program.RefusesNoted, Program.SavesOutput, Program.ShowsOnErrors, Program.StandardView, Program.SystemView, Program.all_command, Program.incomplete_text, Program.lets_all_out, Program.named_path, Program.next_id, Program.one_command, Program.streams_over, Program.system_at}

-- what was written is out
all_out : (known : Option (List ℕ)) → IsPartOut known known
all_out None = ([], tt)
all_out (Some bytes) = ([], append-nil bytes)

kept : (old new : Option (List ℕ)) → new ≡ old → Keeps old new
kept old new same = subst (Keeps old) (sym same) (Keeps-refl old)

-- every other path has what it had, whether the new file was saved or not
pub others_stay : (path bytes : List ℕ) (old : PlacesView) (answer : Result (Unit {0}) StoreFault) (new : PlacesView) →
    SavesNew path bytes old answer new → KeepsOthers path old new
others_stay path bytes old answer new (inl same) = λ other apart. ap (λ (places : PlacesView). places other) same.0
others_stay path bytes old answer new (inr saved) = saved.3

-- ---- the opening

module _ (A : Type 0) (file folder : Bor (List ℕ)) where
  does_opening : (what : Given) (old : OnDesk) (status : ℕ) (new : OnDesk) → EndsOpening old status new →
      Does A (all_command what false file folder) [] old status new
  does_opening Document old status new ends = ends
  does_opening File old status new ends = ends

  at_file : (what : Given) (before : DeskFiles) (old : PlacesView) (after : DeskFiles) (new : PlacesView) →
      IsAt (Some file.now) before old after new → IsAt (named_path (all_command what false file folder)) before old after new
  at_file Document before old after new is = is
  at_file File before old after new is = is

  module _ (what : Given) (before after : DeskFiles) (old : SystemView) (places : PlacesView)
      (there : before ≡ old.places file.now) (left : places file.now ≡ after) (others : KeepsOthers file.now old.places places)
    where
      is_at : IsAt (named_path (all_command what false file folder)) before old.places after places
      is_at = at_file what before old.places after places (there, left, others)

      pub opened_at : (desk : DeskView) (seen : StandardView) → OpensBetween desk before after → Notes old.standard seen →
          (at : DoesAt A (all_command what false file folder) [] old 0 (system_at seen places)) × OpensBetween desk at.before at.after
      opened_at desk seen opens notes = (
        record {
          before = before;
          after = after;
          done = old.standard;
          between = record {
            ended = 0;
            wrote = streams_over old.standard;
            does = does_opening what _ _ _ (opened desk opens.0 (refl, refl, opens.1));
            out = lets_all_out (Keeps-refl old.standard.output) refl (all_out old.standard.errors) (λ _. Keeps-refl old.standard.errors);
            left = refl;
          };
          is_at = is_at;
          noted = notes;
        },
        opens,
      )

      pub refused_at : (name : List ℕ) (status : ℕ) (new : StandardView) → HasNoDesk before MOST_CAPACITY name after →
          RefusesNoted name old.standard status new → DoesAt A (all_command what false file folder) [] old status (system_at new places)
      refused_at name status new none (told, puts, notes) = record {
        before = before;
        after = after;
        done = told;
        between = record {
          ended = status;
          wrote = record (streams_over old.standard) { errors = puts.0.0 };
          does = does_opening what _ _ _ (no_desk name none (puts.0.1, refl));
          out = lets_all_out (kept old.standard.output told.output puts.2) refl puts.0.2
              (λ zero. absurd (grind (arith, puts.0.1, zero)));
          left = puts.1;
        };
        is_at = is_at;
        noted = notes;
      }

-- ---- one document

module _ (A : Type 0) (from id : Bor (List ℕ)) where
  does_giving : (what : Given) (old : OnDesk) (status : ℕ) (new : OnDesk) → EndsGiving what id.now old status new →
      Does A (one_command what from id) [] old status new
  does_giving Document old status new ends = ends
  does_giving File old status new ends = ends

  at_from : (what : Given) (places : PlacesView) →
      IsAt (named_path (one_command what from id)) (places from.now) places (places from.now) places
  at_from Document places = (refl, refl, λ other apart. refl)
  at_from File places = (refl, refl, λ other apart. refl)

  -- what is saved of a desk that opens again is what a command gives of it
  pub gives_one : (what : Given) (number : ℕ) (desk : DeskView) (path bytes : List ℕ) (old : SystemView) (status : ℕ)
      (new : SystemView) → IsTextOfId id.now number →
      OpensBetween desk (old.places from.now) (old.places from.now) → Yields what number desk.held (Ok bytes) →
      SavesOutput path bytes old status new → DoesAndSaves A (one_command what from id) path old status new
  gives_one what number desk path bytes old status new text opens yields saves = record {
    ended = 0;
    bytes = bytes;
    done = old;
    does = record {
      before = old.places from.now;
      after = old.places from.now;
      done = record old.standard { output = Some bytes };
      between = record {
        ended = 0;
        wrote = streams_over (record old.standard { output = Some bytes });
        does = does_giving what _ _ _
            (of_id number text (opened desk opens.0 (Ok bytes, yields, inl (refl, refl, refl), opens.1)));
        out = lets_all_out (Keeps-refl (Some bytes)) refl (all_out old.standard.errors) (λ _. Keeps-refl old.standard.errors);
        left = refl;
      };
      is_at = at_from what old.places;
      noted = inl refl;
    };
    output = refl;
    saves = inr (refl, saves);
  }

-- ---- one after another

-- the text of an ID
abbrev text_of : ℕ → Bor (List ℕ)
text_of id = record { ref_ptr = (0, 0); now = id_text id }

-- the texts of the IDs from a place on
abbrev pub texts_from : {B : Type 0} → List (GivenDocument B) → ℕ → List (List ℕ)
texts_from documents place = map (λ given. id_text given.id) (drop place documents)

pub texts_from-next : {B : Type 0} (documents : List (GivenDocument B)) (place : ℕ) (document : GivenDocument B) →
    place < length documents → document ≡ get_or documents place document →
    texts_from documents place ≡ id_text document.id ∷ texts_from documents (place + 1)
texts_from-next {B} documents place document within is =
    ap (map (λ (given : GivenDocument B). id_text given.id)) (drop_more documents place document within)
    ∙ ap (λ (given : GivenDocument B). id_text given.id ∷ texts_from documents (place + 1)) (sym is)

module _ (A : Type 0) {B : Type 0} (what : Given) (from : Bor (List ℕ)) (folder : List ℕ)
    (documents : List (GivenDocument B)) (desk : DeskView) where
  abbrev IsYielded : GivenDocument B → Type 0
  IsYielded given = Yields what given.id desk.held (Ok given.bytes.items)

  module _ (place : ℕ) (document : GivenDocument B) (old : SystemView) (one : ℕ) (now : SystemView)
      (within : place < length documents) (is : document ≡ get_or documents place document) (yields : All IsYielded documents)
      (opens : OpensBetween desk (old.places from.now) (old.places from.now))
      (text : IsTextOfId (id_text document.id) document.id)
      (saves : SavesOutput (folder ++ 47 ∷ id_text document.id) document.bytes.items old one now) where
    gives : DoesAndSaves A (one_command what from (text_of document.id)) (folder ++ 47 ∷ id_text document.id) old one now
    gives = gives_one A from (text_of document.id) what document.id desk _ _ old one now text opens
        (subst IsYielded (sym is) (All-get_or IsYielded documents place document within yields)) saves

    pub given_next : (others : ℕ) (new : SystemView) →
        GivesEach A what from.now folder (texts_from documents (place + 1)) now others new →
        GivesEach A what from.now folder (texts_from documents place) old (max one others) new
    given_next others new later = rw (texts_from-next documents place document within is) (next_id from (text_of document.id) refl gives later)

-- what is given in the order of its IDs
both_texts : {B : Type 0} (documents : List (GivenDocument B)) →
    map (λ given. id_text given.id) documents ≡ map id_text (map (λ given. given.id) documents)
both_texts [] = refl
both_texts (document ∷ later) = ap (λ (texts : List (List ℕ)). id_text document.id ∷ texts) (both_texts later)

pub texts_are : {B : Type 0} (documents : List (GivenDocument B)) (ids : List ℕ) → map (λ given. given.id) documents ≡ ids →
    map (λ given. id_text given.id) documents ≡ map id_text ids
texts_are documents ids are = both_texts documents ∙ ap (map id_text) are

-- so many others are held
pub others_are : {B : Type 0} (documents : List (GivenDocument B)) (ids : List ℕ) (others held : ℕ) →
    map (λ given. given.id) documents ≡ ids → length documents + others ≡ held → others ≡ held - length ids
others_are documents ids others held are all =
    let same : length ids ≡ length documents = ap length (sym are) ∙ length-map documents (λ given. given.id) in
    omega (arith, same)

-- the note of what is incomplete, if there is one
pub notes_incomplete : (count : ℕ) (note : Option (List ℕ)) (old new : StandardView) →
    IfSome note (λ lines. (0 < count) × (lines ≡ note_line (incomplete_text count))) →
    MatchOption note (new ≡ old) (λ lines. ShowsOnErrors lines old new) → NotesIncomplete count old new
notes_incomplete count None old new is same = inl same
notes_incomplete count (Some lines) old new (some, is) shows =
    inr (some, subst (λ (t : List ℕ). ShowsOnErrors t old new) is shows)

-- a desk that was opened between two files opens again as it was
pub opens_again : (desk : DeskView) (before after : DeskFiles) → OpensBetween desk before after → OpensBetween desk after after
opens_again desk before after (opens, set) = (
  subst (λ (s : SavedSet). OpensDesk (record { joint = after.joint; set = s }) MOST_CAPACITY after.joint desk) (sym set)
      (reopens before MOST_CAPACITY after.joint desk opens),
  set,
)

-- the greatest of some statuses, however they are grouped
pub max_again : (a b c : ℕ) → max (max a b) c ≡ max a (max b c)
max_again a b c = grind arith
