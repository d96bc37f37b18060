use Rattle.dm_size.specs.declared.size.Size.TheVariants.{Side10, Side12, Side14, Side16, Side18, Side20, Side22, Side24, Side26, Side32, Side36, Side40, Side44, Side48, Side52, Side64, Side72, Side80, Side88, Side96, Side104, Side120, Side132}
use Rattle.dm_symbol.specs.Correction.{CarriesItsWords}
use Rattle.relay_program_runs.proofs.laws.each_grid_carries_its_words.Goals as goal

pub returns : goal.returns
returns c = λ size. elim size as (λ s. CarriesItsWords s) [
  | Side10 ↦ c.grid_carries_its_words.ensures
  | Side12 ↦ c.grid_carries_its_words-2.ensures
  | Side14 ↦ c.grid_carries_its_words-3.ensures
  | Side16 ↦ c.grid_carries_its_words-4.ensures
  | Side18 ↦ c.grid_carries_its_words-5.ensures
  | Side20 ↦ c.grid_carries_its_words-6.ensures
  | Side22 ↦ c.grid_carries_its_words-7.ensures
  | Side24 ↦ c.grid_carries_its_words-8.ensures
  | Side26 ↦ c.grid_carries_its_words-9.ensures
  | Side32 ↦ c.grid_carries_its_words-10.ensures
  | Side36 ↦ c.grid_carries_its_words-11.ensures
  | Side40 ↦ c.grid_carries_its_words-12.ensures
  | Side44 ↦ c.grid_carries_its_words-13.ensures
  | Side48 ↦ c.grid_carries_its_words-14.ensures
  | Side52 ↦ c.grid_carries_its_words-15.ensures
  | Side64 ↦ c.grid_carries_its_words-16.ensures
  | Side72 ↦ c.grid_carries_its_words-17.ensures
  | Side80 ↦ c.grid_carries_its_words-18.ensures
  | Side88 ↦ c.grid_carries_its_words-19.ensures
  | Side96 ↦ c.grid_carries_its_words-20.ensures
  | Side104 ↦ c.grid_carries_its_words-21.ensures
  | Side120 ↦ c.grid_carries_its_words-22.ensures
  | Side132 ↦ c.grid_carries_its_words-23.ensures
]
