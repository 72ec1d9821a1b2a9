-- The refusals of the run layer, by number and layer. Assumes nothing.
use Rattle.std.specs.Prelude.{ℕ}
use Rattle.policy.specs.Refusals.{number_of}
use Rattle.settings.specs.declared.fault.RunFault.{RunFault}
use Rattle.settings.specs.declared.fault.RunFault.TheVariants as refused
use Rattle.settings.specs.declared.fault.Layer.{Layer}
use Rattle.settings.specs.declared.fault.Layer.TheVariants as layer

abbrev pub run_number : RunFault → ℕ
-- 4,096 or more is no page
run_number refused.NotAPage = 1
-- 16,000,000 touches were accepted already
run_number refused.TooManyTouches = 2
-- a setting is below its least or above its greatest
run_number refused.OutOfRange = 3
-- N is above L
run_number refused.NthAboveLong = 4
-- a policy's refusal keeps its number
run_number (refused.Policy f) = number_of f

-- and its layer
abbrev pub run_layer : RunFault → Layer
run_layer refused.NotAPage = layer.Run
run_layer refused.TooManyTouches = layer.Run
run_layer refused.OutOfRange = layer.Run
run_layer refused.NthAboveLong = layer.Run
run_layer (refused.Policy f) = layer.Policy
