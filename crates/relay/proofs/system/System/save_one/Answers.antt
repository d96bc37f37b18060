use Rattle.std.proofs.Common.{Err, inl, refl}
use Rattle.dm_store.specs.declared.store.StoreFault.TheVariants as faults
use Rattle.relay.proofs.system.System.save_one.Goals as goal

pub returns-in_default-clause-saves : goal.returns-in_default-clause-saves
returns-in_default-clause-saves g c = record {
  answer = Err faults.Memory;
  saves = inl (c.refuse_noted.ensures.places, inl (faults.Memory, refl));
  tells = c.refuse_noted.ensures.told;
}

pub returns-then-eq-clause-saves : goal.returns-then-eq-clause-saves
returns-then-eq-clause-saves g c = record {
  answer = Err faults.Device;
  saves = inl (c.refuse_noted-then-eq.ensures.places, inl (faults.Device, refl));
  tells = c.refuse_noted-then-eq.ensures.told;
}
