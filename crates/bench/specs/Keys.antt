-- A key in hand fits the processor, so that it can always be given back.
use Rattle.std.specs.Prelude.{Bool, true, Some, None, Option}
use Rattle.clocked.specs.declared.key.Key.{Key}
use Rattle.clocked.specs.declared.processor.Processor.{Processor}
use Rattle.clocked.specs.Refusals.{fits}

abbrev pub key_fits : Option Key → Processor → Bool
key_fits None p = true
key_fits (Some k) p = fits k p
