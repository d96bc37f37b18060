use Rattle.std.specs.FinMap as map
use Rattle.dm_assembly_desk.specs.Desk.{Asks, ask_verdict, Exports, export_verdict, GivesByVerdict}
use Rattle.dm_assembly_desk.specs.declared.fault.AskFault.TheVariants as asks
use Rattle.dm_assembly_desk.specs.declared.fault.ExportFault.TheVariants as exports
use Rattle.relay_desk_commands.proofs.documents.bytes_of.Goals as goal
use Rattle.std.specs.Prelude.{◌≡◌, List, ℕ, Result, Ok, Err, IsErrAnd, MatchResult}
use Rattle.std.proofs.Common.{ap}

-- What a desk answers is what its answer has as bytes.
-- the same answer, of what is given its bytes
abbrev as_bytes : {X F : Type 0} → (X → List ℕ) → Result X F → Result (List ℕ) F
as_bytes bytes (Ok given) = Ok (bytes given)
as_bytes bytes (Err fault) = Err fault

gives : {X F : Type 0} (bytes : X → List ℕ) (memory : F) (verdict : Result (List ℕ) F) (answer : Result X F)
    → GivesByVerdict bytes memory verdict answer →
    GivesByVerdict (λ (given : List ℕ). given) memory verdict (as_bytes bytes answer)
gives bytes memory (Ok list) (Ok given) is = is
gives bytes memory (Ok list) (Err fault) is = is
gives bytes memory (Err refusal) answer is = ap (as_bytes bytes) is

-- what is so of an answer that is given, if its fault is given by its name
named : {X F N : Type 0} (bytes : X → List ℕ) (IsName : F → N → Type 0) (Is : Result (List ℕ) F → Type 0)
    (answer : Result X F) (given : Result X N)
    → MatchResult answer (λ x. given ≡ Ok x) (λ fault. IsErrAnd given (IsName fault)) → Is (as_bytes bytes answer)
    → MatchResult given (λ x. Is (Ok (bytes x))) (λ name. (fault : F) × Is (Err fault) × IsName fault name)
named bytes IsName Is (Ok x) given same is = rw same is
named bytes IsName Is (Err fault) (Ok x) same is = absurd same
named bytes IsName Is (Err fault) (Err name) same is = (fault, is, same)

pub returns-in-Document : goal.returns-in-Document
returns-in-Document g c =
    let found = map.get c.args.desk.now.held c.args.id in
    rw c.in-Document.is
    (named _ _ (λ answer. Asks (λ bytes. bytes) found answer) _ _ c.map_err.ensures.cases
    (gives _ asks.Memory (ask_verdict found) _ c.document.ensures.asks))

pub returns-in-File : goal.returns-in-File
returns-in-File g c =
    let found = map.get c.args.desk.now.held c.args.id in
    rw c.in-File.is
    (named _ _ (λ answer. Exports (λ bytes. bytes) c.args.id found answer) _ _ c.map_err-in-File.ensures.cases
    (gives _ exports.Memory (export_verdict c.args.id found) _ c.export.ensures.exports))
