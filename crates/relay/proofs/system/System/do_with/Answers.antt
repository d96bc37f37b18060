use Rattle.std.proofs.Common.{rules, map, ◌≡◌, Bool, true, false, subst, ℕ, List, Some, None, Result, Ok, Err, inl, refl, sym}
use Rattle.std.specs.{Prelude.IsSome, Prelude.IsTrue, Borrow.Bor}
use Rattle.relay_desk_commands.specs.declared.documents.Given.{Given, TheVariants.Document, TheVariants.File}
use Rattle.relay.specs.Program.{NamesFiles, SystemView, all_command, named_path, system_at, DoesAndForgets, DoesAndSaves, DoesFor, DoesForAll, DoesOrFindsNothing, IsNotOfAll, OrNothing, does_all, does_and_forgets, does_and_saves, does_here}
use Rattle.relay.proofs.system.System.do_with.Goals as goal
use Rattle.relay_line.specs.{Line.named_images, Line.saved_path, declared.line.CommandLine.CommandLine}
use Rattle.relay_shared.specs.Command.{FileView}

names_a_path : (what : Given) (forgets : Bool) (file folder : Bor (List ℕ)) → IsSome (named_path (all_command what forgets file folder))
names_a_path Document forgets file folder = refl
names_a_path File forgets file folder = refl

-- From what a command does to what its line does: where memory is refused, nothing either way.
module _ (A : Type 0) (line : CommandLine) (inputs : List ℕ → FileView) (old new : SystemView) where
  pub over_files : {E : Type 0} (given : List FileView) (ended : Result ℕ E) → saved_path line ≡ None →
      IsNotOfAll line.command → given ≡ map inputs (named_images line) →
      OrNothing (DoesOrFindsNothing A line.command given) (IsSome (named_path line.command)) old ended new →
      OrNothing (DoesFor A inputs line) (NamesFiles line) old ended new
  over_files given (Ok status) none other are done = does_here none other (rw (sym are) done)
  over_files given (Err fault) none other are (names, same) = (inl names, same)

  pub saved : {E : Type 0} (path : List ℕ) (ended : Result ℕ E) → saved_path line ≡ Some path →
      OrNothing (DoesAndSaves A line.command path) (IsSome (named_path line.command)) old ended new →
      OrNothing (DoesFor A inputs line) (NamesFiles line) old ended new
  saved path (Ok status) is done = does_and_saves path is done
  saved path (Err fault) is (names, same) = (inl names, same)

  pub over_all : {E : Type 0} (what : Given) (forgets : Bool) (file folder : Bor (List ℕ)) (ended : Result ℕ E) →
      line.command ≡ all_command what forgets file folder → (IsTrue forgets → what ≡ Document) →
      OrNothing (DoesForAll A forgets what file folder) (Unit {0}) old ended new →
      OrNothing (DoesFor A inputs line) (NamesFiles line) old ended new
  over_all what false file folder (Ok status) is document done = does_all what file folder is done
  over_all what true file folder (Ok status) is document done = let all : what ≡ Document = document refl in
      does_and_forgets file folder (subst (λ (given : Given). line.command ≡ all_command given true file folder) all is)
      (subst (λ (given : Given). DoesAndForgets A given file folder old status new) all done)
  over_all what forgets file folder (Err fault) is document (any, same) =
      (inl (rw is (names_a_path what forgets file folder)), same)

pub returns-in-Some : goal.returns-in-Some
returns-in-Some g c =
    let old : SystemView = system_at c.args.self.standard (g.P.Places.state c.args.self.places) in
    let new : SystemView =
    system_at c.do_saved.result.1.standard (g.P.Places.state c.do_saved.result.1.places) in
    saved _ c.args.line.now (g.P.Places.known c.args.self.places) old new c.in-Some.path.now c.do_saved.result.0
    (search rules) c.do_saved.ensures

pub returns-in-Some-for_all : goal.returns-in-Some-for_all
returns-in-Some-for_all g c =
    let old : SystemView = system_at c.args.self.standard (g.P.Places.state c.args.self.places) in
    let new : SystemView = system_at c.do_all.result.1.standard (g.P.Places.state c.do_all.result.1.places) in
    let all = c.in-Some-for_all.all in
    over_all _ c.args.line.now (g.P.Places.known c.args.self.places) old new all.given all.forgets all.file all.folder
    c.do_all.result.0 c.in-Some-for_all.ensures.all c.in-Some-for_all.ensures.forgets c.do_all.ensures

pub returns-in-Ok : goal.returns-in-Ok
returns-in-Ok g c =
    let old : SystemView = system_at c.args.self.standard (g.P.Places.state c.args.self.places) in
    let new : SystemView = system_at c.do_found.result.1.standard (g.P.Places.state c.do_found.result.1.places) in
    over_files _ c.args.line.now (g.P.Places.known c.args.self.places) old new
    (map g.P.Input.NamedFile.known c.as_slice-in-Ok.result.now) c.do_found.result.0 (search rules)
    c.in_default-for_all.ensures.all (search rules) c.do_found.ensures
