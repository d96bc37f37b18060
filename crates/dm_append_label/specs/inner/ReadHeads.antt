-- A head as the code has it, what reading one answers, and the data codewords of a page's label.
use Rattle.std.specs.Prelude.{◌≡◌, Result, Ok, Err, ℕ, List, length, take, drop}
use Rattle.dm_append_label.specs.Labels.{HeadView, IsHead, head_of, head_words, PageView}
use Rattle.dm_append_label.specs.declared.{fault.LabelFault.LabelFault, head.Head.Head}
use Rattle.dm_size.specs.{declared.size.Size.Size, Sizes.data_words}
use Rattle.dm_encodation.specs.{declared.scheme.Scheme.Scheme, Written.filled, Grammar.ReadsOnly}

-- what a head says
abbrev pub view_of : Head → HeadView
view_of h = record { m = h.m; n = h.n; id = h.id }

-- The answer is what was to be read: the head, which is sound, or the fault.
abbrev pub ReadsHead : Result HeadView LabelFault → Result Head LabelFault → Type 0
ReadsHead read (Ok h) = (read ≡ Ok (view_of h)) × IsHead (view_of h)
ReadsHead read (Err fault) = read ≡ Err fault

-- the head, the text and pads, that many as a symbol of the size has, which read as the page
pub record IsDataOf (size : Size) (scheme : Scheme) (page : PageView) (words : List ℕ) : Type 0 where
  pub filled_is : words ≡ filled scheme (head_words (head_of page)) page.bytes (data_words size)
  pub count : length words ≡ data_words size
  pub is_head : IsHead (head_of page)
  pub begins : take 4 words ≡ head_words (head_of page)
  pub reads : ReadsOnly 5 (drop 4 words) page.bytes
