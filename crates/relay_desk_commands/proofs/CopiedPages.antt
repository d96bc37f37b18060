-- Copies of pages that a desk holds, and what they open as.
use Rattle.std.proofs.Common.{◌≡◌, ℕ, List, MatchResult, Option, Some, Result, Ok, Err, refl, sym, ap, subst, ◌∙◌, arith}
use Rattle.dm_gf256.specs.Field.{differ}
use Rattle.dm_gf256.proofs.OneBlockWord.{differ-self}
use Rattle.dm_check_blocks.specs.Blocks.{block_of}
use Rattle.dm_size.specs.declared.size.Size.{Size}
use Rattle.dm_encodation.specs.declared.scheme.Scheme.{Scheme}
use Rattle.dm_finder_frame.specs.Frame.{FrameHasNoWrongModule, wrong_frame_modules, GridView}
use Rattle.dm_symbol.specs.Correction.{CorrectedView, CarriesItsWords, IsNear, words_of_grid}
use Rattle.dm_symbol.proofs.NearGrids.{near_gives}
use Rattle.dm_append_label.specs.{Labels.Carries, Labels.PageView, Opening.LabelOpens, Opening.OpensAs, Opening.RefusesLabel}
use Rattle.dm_append_label.specs.declared.{fault.LabelFault.LabelFault, opening.Opened.Opened}
use Rattle.dm_append_label.specs.declared.fault.LabelFault.TheVariants as labels
use Rattle.std.specs.FinMap.{get}
use Rattle.dm_assembly_desk.specs.Documents.{Documents, Pages, page, page_at}
use Rattle.relay_desk_commands.specs.Desks.{Copies, OpensAsHeld, OpensAsNoOther}

near_itself : (grid : GridView) → IsNear grid grid
near_itself grid = record {
  same_size = refl;
  words = λ b within. omega (arith, differ-self (block_of grid.size b (words_of_grid grid)));
}

module _ (page : PageView) (grid : GridView) (label : Carries page grid) where
  -- a label has no wrong module on its finder patterns
  none_wrong : FrameHasNoWrongModule grid.size → wrong_frame_modules grid ≡ 0
  none_wrong law = ap wrong_frame_modules label.drawn ∙ law _

  -- and no codeword of it is corrected
  none_corrected : CarriesItsWords grid.size → {other : PageView} {corrected wrong : ℕ}
      → OpensAs grid other corrected wrong → corrected ≡ 0
  none_corrected law {other} {corrected} {wrong} opens =
      let there = law label.words label.symbol.count label.symbol.bytes in
      let symbol : CorrectedView = record {
        size = grid.size;
        words = opens.words;
        corrected = differ (words_of_grid grid) opens.words;
        wrong = wrong_frame_modules grid;
      } in
      let same : opens.words ≡ label.words =
      near_gives grid (Ok symbol)
      (record { same_size = refl; read = opens.read; corrected = refl; wrong = refl }) label.words label.symbol there
      (subst (λ (g : GridView). IsNear grid g) label.drawn (near_itself grid)) in
      opens.changed ∙ ap (λ (w : List ℕ). differ (words_of_grid grid) w)
      (same ∙ sym (ap words_of_grid label.drawn ∙ there)) ∙ differ-self (words_of_grid grid)

-- what `open_label` answers
abbrev IsOpened : {A : Type 0} → GridView → Result (Opened A) LabelFault → Type 0
IsOpened grid result = MatchResult result (λ opened. LabelOpens grid (Ok opened.page)
    × OpensAs grid opened.page opened.corrected opened.wrong) (RefusesLabel grid)

module _ {held : Documents} {id m : ℕ} {size : Size} {scheme : Scheme} (grid : GridView) where
  -- a copy is opened as the page that is held
  pub opens_as_held : {A : Type 0} (result : Result (Opened A) LabelFault) → Copies held id m size scheme grid
      → CarriesItsWords grid.size → FrameHasNoWrongModule grid.size → IsOpened grid result
      → OpensAsHeld held id m result
  opens_as_held (Ok o) c words frame opened = (
    rw (opened.0.near grid c.page c.carries (near_itself grid)) c.is_held,
    none_corrected c.page grid c.carries words opened.1,
    opened.1.wrong_is ∙ none_wrong c.page grid c.carries frame,
  )
  opens_as_held (Err labels.Memory) c words frame opened = tt
  opens_as_held (Err (labels.Border wrong)) c words frame opened =
      absurd (omega (arith, opened.opens.0, none_wrong c.page grid c.carries frame))
  opens_as_held (Err _) c words frame opened = opened.near grid c.page c.carries (near_itself grid)

  -- a grid near a copy is opened as no other page
  pub opens_as_no_other : {A : Type 0} (copy : GridView) (result : Result (Opened A) LabelFault)
      → Copies held id m size scheme copy → IsNear grid copy → IsOpened grid result → OpensAsNoOther held id m result
  opens_as_no_other copy (Ok o) c near opened = rw (opened.0.near copy c.page c.carries near) c.is_held
  opens_as_no_other copy (Err fault) c near opened = tt

-- what is lent of a page that is asked for
pub lent_page : (held : Documents) (id m : ℕ) {pages : Pages} {lent : Option (List ℕ)} → Some pages ≡ get held id
    → lent ≡ page pages m → page_at held id m ≡ lent
lent_page held id m there is = rw (← there) (sym is)
