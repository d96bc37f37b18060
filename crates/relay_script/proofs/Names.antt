-- Words after a name spell events of that name alone.
use Rattle.std.proofs.Common.{◌≡◌, ℕ, List, ◌∷◌, true, false, codes}
use Rattle.std.proofs.lemmas.{Bool.false≢true, Slice.Eq.bytes_eq-Decides}
use Rattle.std.specs.Str.{bytes_eq}
use Rattle.dm_size.specs.declared.size.Size.{Size}
use Rattle.dm_encodation.specs.declared.scheme.Scheme.{Scheme}
use Rattle.dm_print_ledger.specs.declared.range.Range.{Range}
use Rattle.dm_event_history.specs.declared.stop.Stop.{Stop}
use Rattle.dm_event_history.specs.declared.event.Event.TheVariants.{Print, Scan, RestartPrinter, RestartDesk, Ask, Forget, Give, Take, Export, Import}
use Rattle.relay_script.specs.Scripts.{SpellsEvent}
use Rattle.relay_script.specs.Words.{Nothing}

-- no event is spelled, if none of this name is
nothing_named : {A : Type 0} (words : List (List ℕ)) (name : List ℕ)
    → (bytes_eq name (codes "print") ≡ true
    → (printer : ℕ) → (document : List ℕ) → (size : Size) → (scheme : Scheme) → (stop : Stop)
    → ¬ SpellsEvent {A = A} (name ∷ words) (Print printer document size scheme stop))
    → (bytes_eq name (codes "scan") ≡ true → (desk label : ℕ) → (flips : List (ℕ × ℕ)) → (stop : Stop)
    → ¬ SpellsEvent {A = A} (name ∷ words) (Scan desk label flips stop))
    → (bytes_eq name (codes "restart") ≡ true → (printer : ℕ)
    → ¬ SpellsEvent {A = A} (name ∷ words) (RestartPrinter printer))
    → (bytes_eq name (codes "restart") ≡ true → (desk : ℕ)
    → ¬ SpellsEvent {A = A} (name ∷ words) (RestartDesk desk))
    → (bytes_eq name (codes "ask") ≡ true → (desk id : ℕ)
    → ¬ SpellsEvent {A = A} (name ∷ words) (Ask desk id))
    → (bytes_eq name (codes "forget") ≡ true → (desk id : ℕ) → (stop : Stop)
    → ¬ SpellsEvent {A = A} (name ∷ words) (Forget desk id stop))
    → (bytes_eq name (codes "give") ≡ true → (printer receiver : ℕ) → (range : Range) → (stop : Stop)
    → ¬ SpellsEvent {A = A} (name ∷ words) (Give printer receiver range stop))
    → (bytes_eq name (codes "take") ≡ true → (printer ticket : ℕ) → (stop : Stop)
    → ¬ SpellsEvent {A = A} (name ∷ words) (Take printer ticket stop))
    → (bytes_eq name (codes "export") ≡ true → (desk id : ℕ)
    → ¬ SpellsEvent {A = A} (name ∷ words) (Export desk id))
    → (bytes_eq name (codes "import") ≡ true → (desk export : ℕ) → (stop : Stop)
    → ¬ SpellsEvent {A = A} (name ∷ words) (Import desk export stop))
    → Nothing (SpellsEvent {A = A} (name ∷ words))
nothing_named words name a b c d e f g h i j (Print printer document size scheme stop) =
    λ is. a ((bytes_eq-Decides name (codes "print")).1 is.0.1) printer document size scheme stop is
nothing_named words name a b c d e f g h i j (Scan desk label flips stop) =
    λ is. b ((bytes_eq-Decides name (codes "scan")).1 is.0.1) desk label flips stop is
nothing_named words name a b c d e f g h i j (RestartPrinter printer) =
    λ is. c ((bytes_eq-Decides name (codes "restart")).1 is.0.1) printer is
nothing_named words name a b c d e f g h i j (RestartDesk desk) =
    λ is. d ((bytes_eq-Decides name (codes "restart")).1 is.0.1) desk is
nothing_named words name a b c d e f g h i j (Ask desk id) =
    λ is. e ((bytes_eq-Decides name (codes "ask")).1 is.0.1) desk id is
nothing_named words name a b c d e f g h i j (Forget desk id stop) =
    λ is. f ((bytes_eq-Decides name (codes "forget")).1 is.0.1) desk id stop is
nothing_named words name a b c d e f g h i j (Give printer receiver range stop) =
    λ is. g ((bytes_eq-Decides name (codes "give")).1 is.0.1) printer receiver range stop is
nothing_named words name a b c d e f g h i j (Take printer ticket stop) =
    λ is. h ((bytes_eq-Decides name (codes "take")).1 is.0.1) printer ticket stop is
nothing_named words name a b c d e f g h i j (Export desk id) =
    λ is. i ((bytes_eq-Decides name (codes "export")).1 is.0.1) desk id is
nothing_named words name a b c d e f g h i j (Import desk export stop) =
    λ is. j ((bytes_eq-Decides name (codes "import")).1 is.0.1) desk export stop is

-- two names differ
no : {P : Type 0} → false ≡ true → P
no same = absurd (false≢true same)

pub no_print : {A : Type 0} (words : List (List ℕ))
    → ((printer : ℕ) → (document : List ℕ) → (size : Size) → (scheme : Scheme) → (stop : Stop)
    → ¬ SpellsEvent {A = A} (codes "print" ∷ words) (Print printer document size scheme stop))
    → Nothing (SpellsEvent {A = A} (codes "print" ∷ words))
no_print words none = nothing_named words (codes "print") (λ _. none) no no no no no no no no no

pub no_scan : {A : Type 0} (words : List (List ℕ))
    → ((desk label : ℕ) → (flips : List (ℕ × ℕ)) → (stop : Stop)
    → ¬ SpellsEvent {A = A} (codes "scan" ∷ words) (Scan desk label flips stop))
    → Nothing (SpellsEvent {A = A} (codes "scan" ∷ words))
no_scan words none = nothing_named words (codes "scan") no (λ _. none) no no no no no no no no

pub no_restart : {A : Type 0} (words : List (List ℕ))
    → ((printer : ℕ) → ¬ SpellsEvent {A = A} (codes "restart" ∷ words) (RestartPrinter printer))
    → ((desk : ℕ) → ¬ SpellsEvent {A = A} (codes "restart" ∷ words) (RestartDesk desk))
    → Nothing (SpellsEvent {A = A} (codes "restart" ∷ words))
no_restart words printer desk = nothing_named words (codes "restart") no no (λ _. printer) (λ _. desk) no no no no no no

pub no_ask : {A : Type 0} (words : List (List ℕ))
    → ((desk id : ℕ) → ¬ SpellsEvent {A = A} (codes "ask" ∷ words) (Ask desk id))
    → Nothing (SpellsEvent {A = A} (codes "ask" ∷ words))
no_ask words none = nothing_named words (codes "ask") no no no no (λ _. none) no no no no no

pub no_forget : {A : Type 0} (words : List (List ℕ))
    → ((desk id : ℕ) → (stop : Stop) → ¬ SpellsEvent {A = A} (codes "forget" ∷ words) (Forget desk id stop))
    → Nothing (SpellsEvent {A = A} (codes "forget" ∷ words))
no_forget words none = nothing_named words (codes "forget") no no no no no (λ _. none) no no no no

pub no_give : {A : Type 0} (words : List (List ℕ))
    → ((printer receiver : ℕ) → (range : Range) → (stop : Stop)
    → ¬ SpellsEvent {A = A} (codes "give" ∷ words) (Give printer receiver range stop))
    → Nothing (SpellsEvent {A = A} (codes "give" ∷ words))
no_give words none = nothing_named words (codes "give") no no no no no no (λ _. none) no no no

pub no_take : {A : Type 0} (words : List (List ℕ))
    → ((printer ticket : ℕ) → (stop : Stop) → ¬ SpellsEvent {A = A} (codes "take" ∷ words) (Take printer ticket stop))
    → Nothing (SpellsEvent {A = A} (codes "take" ∷ words))
no_take words none = nothing_named words (codes "take") no no no no no no no (λ _. none) no no

pub no_export : {A : Type 0} (words : List (List ℕ))
    → ((desk id : ℕ) → ¬ SpellsEvent {A = A} (codes "export" ∷ words) (Export desk id))
    → Nothing (SpellsEvent {A = A} (codes "export" ∷ words))
no_export words none = nothing_named words (codes "export") no no no no no no no no (λ _. none) no

pub no_import : {A : Type 0} (words : List (List ℕ))
    → ((desk export : ℕ) → (stop : Stop) → ¬ SpellsEvent {A = A} (codes "import" ∷ words) (Import desk export stop))
    → Nothing (SpellsEvent {A = A} (codes "import" ∷ words))
no_import words none = nothing_named words (codes "import") no no no no no no no no no (λ _. none)
