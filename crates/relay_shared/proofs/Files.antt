-- From one file to all of them.
use Rattle.std.specs.Prelude.{◌≡◌, ◌≢◌, ◌<◌, ◌≤◌, ◌+◌, ℕ, List, [], ◌∷◌, Option, Bool, IfSome, false, true, drop, get_or, length, map, max, take}
use Rattle.std.proofs.Common.{◌∙◌, ap, arith, refl, subst, sym}
use Rattle.std.proofs.{lemmas.List.drop_all, lemmas.List.drop_more, Math.Nat.max-zero}
use Rattle.relay_streams.proofs.Taken.{filled_first}
use Rattle.relay_streams.specs.Streams.{Fills, InputView, OutputView, input_fault_name, read_fault_name}
use Rattle.relay_streams.specs.declared.fault.ReadFault.{ReadFault}
use Rattle.relay_streams.specs.declared.fault.ReadFault.TheVariants as reads
use Rattle.relay_streams.specs.declared.fault.InputFault.TheVariants as inputs
use Rattle.relay_shared.specs.Command.{FileView, ImageCommand, Progress, TellsFile, TellsFiles, TellsImages, TellsInputs, at_image, has_stopped, progress_at, TellsFile.opened, TellsFiles.last_file, TellsFiles.next_file, TellsFiles.no_file, TellsInputs.of_files}

same_input : (input : InputView) (bytes : Option (List ℕ)) → input.remaining ≡ bytes → input.has_failed ≡ false →
    input ≡ record { remaining = bytes; has_failed = false }
same_input input bytes left whole = grind arith

-- these are the first bytes of a file that was opened
pub first_of_file : {old file new : Option (List ℕ)} {room : List ℕ} {count limit : ℕ} → old ≡ file →
    length room ≡ limit → Fills old new room count → IfSome file (λ all. take count room ≡ take limit all)
first_of_file {old} {file} {new} {room} {count} {limit} same long fills =
    subst (λ (o : Option (List ℕ)). IfSome o (λ all. take count room ≡ take limit all)) same
    (rw long at (filled_first old new room count fills).first)

-- a read fails by one name
pub read_named : (fault : ReadFault) → read_fault_name fault ≡ input_fault_name inputs.Read
read_named reads.Read = refl

-- a file that was opened was gone over
pub was_opened : (c : ImageCommand) (file : FileView) (now : c.State) (output : OutputView) (input : InputView)
    {status : ℕ} (new : Progress c) → input.remaining ≡ file.remaining → input.has_failed ≡ false →
    TellsImages c (progress_at now input output) status new →
    TellsFile c file (at_image now output) status (at_image new.state new.output)
was_opened c file now output input {status} new left whole tells = opened new.input
    (subst (λ (i : InputView). TellsImages c (progress_at now i output) status new)
    (same_input input file.remaining left whole) tells)

drop_next : {F : Type 0} (files : List F) (done : ℕ) (file : F) → done < length files → file ≡ get_or files done file →
    drop done files ≡ file ∷ drop (done + 1) files
drop_next files done file within is =
    drop_more files done file within ∙ ap (λ one. one ∷ drop (done + 1) files) (sym is)

max_again : (a b c : ℕ) → max (max a b) c ≡ max a (max b c)
max_again a b c = grind arith

module _ {S : Type 0} (Tells : FileView → S → ℕ → S → Type 0) (has_stopped : S → Bool) {F : Type 0}
    (known : F → FileView) (files : List F) (start : S) where
  abbrev All : List F → S → ℕ → S → Type 0
  All some now others new = TellsFiles Tells has_stopped (map known some) now others new

  -- After this many files, with this status, whatever the others come to, so do all.
  abbrev pub Before : ℕ → ℕ → S → Type 0
  Before done status now = (others : ℕ) (new : S) → All (drop done files) now others new →
      All files start (max status others) new

  module _ (done status one : ℕ) (file : F) (now after : S) (within : done < length files) (is : file ≡ get_or files done file)
      (so_far : Before done status now) (tells : Tells (known file) now one after) where
    -- one file more
    pub one_more_file : has_stopped after ≡ false → Before (done + 1) (max status one) after
    one_more_file goes_on others new rest = rw (max_again status one others)
        (so_far (max one others) new (rw (drop_next files done file within is) (next_file tells goes_on rest)))

    -- nothing is read after that one
    pub at_last_file : has_stopped after ≡ true → All files start (max status one) after
    at_last_file stopped = so_far one after (rw (drop_next files done file within is) (last_file tells stopped))

  -- there is no other
  pub at_no_file : (done status : ℕ) (now : S) → length files ≤ done → Before done status now → All files start status now
  at_no_file done status now all so_far = subst (λ (s : ℕ). All files start s now) (max-zero status)
      (so_far 0 now (rw (drop_all done files all) no_file))

-- and nothing of the input is read
pub over_files : (c : ImageCommand) {F : Type 0} (known : F → FileView) (files : List F) (now : c.State)
    (input : InputView) (output : OutputView) (status : ℕ) (new : c.State) (after : OutputView) → files ≢ [] →
    TellsFiles (TellsFile c) (has_stopped c) (map known files) (at_image now output) status (at_image new after) →
    TellsInputs c (map known files) (progress_at now input output) status (progress_at new input after)
over_files c known [] now input output status new after some tells = absurd (some refl)
over_files c known (file ∷ later) now input output status new after some tells = of_files refl tells
