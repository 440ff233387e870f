-- The names of the control states, and what a load or store asks of the card.
-- A reader must believe: a load reads at its address and a store writes its word there.
use Rattle.std.specs.Prelude.{ℕ}
use Rattle.card.specs.declared.transfer.Direction.TheVariants.{Read, Write}
use Rattle.card.specs.declared.transfer.Request.{Request}
use Rattle.machine.specs.declared.fault.Stage.{Stage}
use Rattle.machine.specs.declared.fault.Stage.TheVariants as stage
use Rattle.clocked.specs.declared.access.Access.{Access}
use Rattle.clocked.specs.declared.access.Access.TheVariants.{Load, Store}
use Rattle.clocked.specs.declared.control.Control.{Control}
use Rattle.clocked.specs.declared.control.Control.TheVariants.{Fetch0, Fetch1, Fetch2, Decode, DispFetch0, DispFetch1, DispFetch2, Execute0, Execute1, Execute2}
use Rattle.clocked.specs.declared.control.ControlState.{ControlState}
use Rattle.clocked.specs.declared.control.ControlState.TheVariants as state

abbrev pub named : Control → ControlState
named Fetch0 = state.Fetch0
named Fetch1 = state.Fetch1
named Fetch2 = state.Fetch2
named (Decode i) = state.Decode
named (DispFetch0 i) = state.DispFetch0
named (DispFetch1 i) = state.DispFetch1
named (DispFetch2 i) = state.DispFetch2
named (Execute0 i d) = state.Execute0
named (Execute1 a) = state.Execute1
named (Execute2 a) = state.Execute2

abbrev pub reads_at : ℕ → Request
reads_at a = record { direction = Read; address = a }

-- What a load or store asks of the card, and the stage of a fault that it meets.
abbrev pub request_of : Access → Request
request_of (Load a r) = reads_at a
request_of (Store a w) = record { direction = Write w; address = a }

abbrev pub stage_of : Access → Stage
stage_of (Load a r) = stage.Load
stage_of (Store a w) = stage.Store
