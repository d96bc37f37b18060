-- What a desk holds: the pages of one document, the file that they are saved in, and all documents.
use Rattle.std.specs.Prelude.{ℕ, zero, suc, ◌+◌, ◌*◌, ◌/◌, ◌%◌, ◌==◌, Bool, false, List, [], ◌∷◌, Option, Some, None, is_some, is_none, if◌then◌else◌, slice_index_or, true, ◌&&◌, length, ◌≡◌, ◌≢◌, ◌<◌, ◌≤◌, ◌++◌, take, slice_get, IfSome, IsSomeAnd, option_map, unwrap_or, IsTrue, map as each}
use Rattle.std.specs.{List.flat_map, List.AllByRecursion, Option.option_copied, Option.option_or, Borrow.Bor}
use Rattle.std.specs.{Str.bytes_eq, Int.w16, Int.to_be_bytes, Ordering.nat_cmp}
use Rattle.std.specs.FinMap as map
use Rattle.dm_append_label.specs.{Labels.id_words, declared.opening.TheConstants.MOST_PAGE_BYTES}
use Rattle.dm_assembly_desk.specs.declared.{file.FileFault.FileFault, limits.TheConstants.MOST_CAPACITY}
use Rattle.dm_assembly_desk.specs.declared.file.FileFault.TheVariants.{NotPages, Version, Damaged}
use Rattle.dm_store.specs.Saved.{Contents, SavedSet}
use Rattle.dm_assembly_desk.specs.declared.reply.Held.{Held}

-- Page m of a document stands at place m - 1, with its bytes if it is held. There are as many places as pages.
abbrev pub Pages : Type 0
Pages = List (Option (List ℕ))

-- page m, if it is held; there is no page 0
abbrev pub page : Pages → ℕ → Option (List ℕ)
page pages zero = None
page pages (suc i) = slice_index_or pages i None

-- whether page m is one of the pages and is not held
abbrev pub lacks : Pages → ℕ → Bool
lacks pages zero = false
lacks [] (suc m) = false
lacks (p ∷ ps) (suc zero) = is_none p
lacks (p ∷ ps) (suc (suc m)) = lacks ps (suc m)

abbrev pub page_bytes : Option (List ℕ) → List ℕ
page_bytes None = []
page_bytes (Some bytes) = bytes

-- the document: its pages, joined in order
abbrev pub document_of : Pages → List ℕ
document_of pages = flat_map page_bytes pages

-- whether a mask names page m, which bit m - 1 does
abbrev pub names : ℕ → ℕ → Bool
names bits zero = false
names bits (suc zero) = bits % 2 == 1
names bits (suc (suc m)) = names (bits / 2) (suc m)

-- the mask that names the pages that are held
abbrev pub mask : Pages → ℕ
mask [] = 0
mask (p ∷ ps) = 2 * mask ps + (if is_some p then 1 else 0)

-- the mask that names the pages that are not held
abbrev pub missing_mask : Pages → ℕ
missing_mask [] = 0
missing_mask (p ∷ ps) = 2 * missing_mask ps + (if is_none p then 1 else 0)

-- the bytes of a page that is lent, if it is held
abbrev pub lent_bytes : Option (Bor (List ℕ)) → Option (List ℕ)
lent_bytes lent = option_copied lent

-- each page that is held and, for those that are not, the page that is given
abbrev pub union_of_pages : Pages → Pages → Pages
union_of_pages [] given = given
union_of_pages (p ∷ ps) [] = p ∷ ps
union_of_pages (p ∷ ps) (q ∷ qs) = option_or p q ∷ union_of_pages ps qs

-- the mask that names each page that is given and not held
abbrev pub added_mask : Pages → Pages → ℕ
added_mask [] given = mask given
added_mask (p ∷ ps) [] = 0
added_mask (p ∷ ps) (q ∷ qs) = 2 * added_mask ps qs + (if is_none p && is_some q then 1 else 0)

-- a page that is held and given has the same bytes
abbrev pub agrees_at : Option (List ℕ) → Option (List ℕ) → Bool
agrees_at (Some one) (Some other) = bytes_eq one other
agrees_at (Some one) None = true
agrees_at None other = true

-- each page that is held and given has the same bytes
abbrev pub agree : Pages → Pages → Bool
agree [] given = true
agree (p ∷ ps) [] = true
agree (p ∷ ps) (q ∷ qs) = agrees_at p q && agree ps qs

-- what is given may be added to what is held: it has as many pages, and each page that is also held has the same bytes
abbrev pub may_join : Option Pages → Pages → Bool
may_join None given = true
may_join (Some own) given = length own == length given && agree own given

-- ---- The file in which the pages of one document are saved and exported, and why other bytes are none. The format is
-- this project's own. A number of two bytes has the most significant byte first.

-- ---- the entry of a document

-- how many bytes there are, in two bytes, and the bytes
abbrev pub with_length : List ℕ → List ℕ
with_length bytes = to_be_bytes w16 (length bytes) ++ bytes

abbrev pub page_in_file : Option (List ℕ) → List ℕ
page_in_file None = []
page_in_file (Some bytes) = with_length bytes

-- the pages that are held, in order
abbrev pub pages_in_file : Pages → List ℕ
pages_in_file pages = flat_map page_in_file pages

-- the two codewords of the ID, how many pages the document has, the mask of those that are held, and those pages
abbrev pub entry : ℕ → Pages → List ℕ
entry id pages = id_words id ++ length pages ∷ to_be_bytes w16 (mask pages) ++ pages_in_file pages

-- a page is no longer than the greatest symbol allows
abbrev pub IsShort : Option (List ℕ) → Type 0
IsShort p = IfSome p (λ bytes. length bytes ≤ MOST_PAGE_BYTES)

-- what has an entry: an ID, and 2 to 16 pages, of which at least one is held
pub record IsEntry (id : ℕ) (pages : Pages) : Type 0 where
  pub id_fits : id < 64516
  pub least : 2 ≤ length pages
  pub most : length pages ≤ 16
  pub some_held : 1 ≤ mask pages
  pub short : AllByRecursion IsShort pages

-- ---- the file of a document

-- "DMPG", the version 2, and the entry
unfoldable pub file : ℕ → Pages → List ℕ
file id pages = 68 ∷ 77 ∷ 80 ∷ 71 ∷ 2 ∷ entry id pages

-- the bytes are the file of these pages of the document with this ID
pub record SpellsFile (id : ℕ) (bytes : List ℕ) (pages : Pages) : Type 0 where
  pub sound : IsEntry id pages
  pub spelled : bytes ≡ file id pages

-- the bytes are a file of the document with this ID
abbrev pub IsFile : ℕ → List ℕ → Type 0
IsFile id bytes = (pages : Pages) × SpellsFile id bytes pages

-- ---- other bytes

-- the bytes begin with "DMPG"
abbrev pub IsMarked : List ℕ → Type 0
IsMarked bytes = take 4 bytes ≡ 68 ∷ 77 ∷ 80 ∷ 71 ∷ []

-- the fifth byte is there, and names another version
abbrev pub IsOfOtherVersion : List ℕ → Type 0
IsOfOtherVersion bytes = IsSomeAnd (slice_get bytes 4) (λ version. version ≢ 2)

-- why the bytes are no file of the document with this ID
abbrev pub HasFileFault : ℕ → List ℕ → FileFault → Type 0
HasFileFault id bytes NotPages = ¬ IsMarked bytes
HasFileFault id bytes Version = IsMarked bytes × IsOfOtherVersion bytes
HasFileFault id bytes Damaged = IsMarked bytes × (¬ IsOfOtherVersion bytes) × (¬ IsFile id bytes)

-- why the bytes are no file of any document
abbrev pub HasNoFile : List ℕ → FileFault → Type 0
HasNoFile bytes NotPages = ¬ IsMarked bytes
HasNoFile bytes Version = IsMarked bytes × IsOfOtherVersion bytes
HasNoFile bytes Damaged = IsMarked bytes × (¬ IsOfOtherVersion bytes) × ((id : ℕ) → ¬ IsFile id bytes)

-- ---- What a desk holds, a finite map from IDs to the pages of their documents, and the set that keeps it.

-- the pages of each document of which at least one is held, by its ID
abbrev pub Documents : Type 0
Documents = map.FinMap nat_cmp Pages

-- the pages of a document; none if none is held
abbrev pub own_pages : Documents → ℕ → Pages
own_pages held id = unwrap_or (map.get held id) []

-- page m of a document, if it is held
abbrev pub page_at : Documents → ℕ → ℕ → Option (List ℕ)
page_at held id m = page (own_pages held id) m

-- how many pages the document has, if any is held, and else 0
abbrev pub count_at : Documents → ℕ → ℕ
count_at held id = length (own_pages held id)

-- each page that was held is held with the same bytes
abbrev pub KeepsPages : Documents → Documents → Type 0
KeepsPages old new = (id m : ℕ) (bytes : List ℕ) → page_at old id m ≡ Some bytes → page_at new id m ≡ Some bytes

-- each document has an entry
abbrev pub AreEntries : Documents → Type 0
AreEntries held = (id : ℕ) (pages : Pages) → map.get held id ≡ Some pages → IsEntry id pages

-- the set holds the file of each document under its ID, and nothing else
pub record HoldsFiles (content : Contents) (held : Documents) : Type 0 where
  pub entries : AreEntries held
  pub files : (id : ℕ) → map.get content id ≡ option_map (file id) (map.get held id)

-- a desk's set, what it holds, its capacity, and whether a save failed
pub record DeskView : Type 0 where
  pub saved : SavedSet
  pub held : Documents
  pub capacity : ℕ
  pub is_failed : Bool

-- a capacity that a desk may have
pub record IsCapacity (capacity : ℕ) : Type 0 where
  pub least : 1 ≤ capacity
  pub most : capacity ≤ MOST_CAPACITY

-- Each document has an entry, no more are held than there is room for, and unless a save failed an honest set holds
-- their files and nothing else.
pub record DeskIsInOrder (desk : DeskView) : Type 0 where
  pub is_capacity : IsCapacity desk.capacity
  pub few : map.len desk.held ≤ desk.capacity
  pub entries : AreEntries desk.held
  pub saved : desk.is_failed ≡ false → IsTrue desk.saved.is_honest → HoldsFiles desk.saved.content desk.held

-- what a desk says of a document that it holds
abbrev pub summary : ℕ × Pages → Held
summary e = record { id = e.0; n = length e.1; mask = mask e.1 }

-- the same of each document, by rising ID
abbrev pub summaries : Documents → List Held
summaries held = each summary (map.entries held)
