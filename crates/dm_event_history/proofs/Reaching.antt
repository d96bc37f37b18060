-- What is so of a call that comes so far.
use Rattle.std.proofs.Common.{arith}
use Rattle.dm_event_history.specs.{declared.stop.Stop.Stop, Steps.Reaches}

pub reaches : {P Q : Type 0} (stop : Stop) → (P → Q) → Reaches stop P → Reaches stop Q
reaches stop f p = grind arith

pub reached : {P : Type 0} (stop : Stop) → P → Reaches stop P
reached stop p = grind arith
