use Rattle.std.proofs.Common.{◌≡◌, ◌≤◌, length, vec_items, vec_len, vec_capacity}
use Rattle.run.proofs.Traces.{PlaysOn}
use Rattle.run.proofs.play.play.Given as goal

abbrev pub invariant-loop-event : goal.invariant-loop-event
invariant-loop-event g l =
    record {
      plays : PlaysOn g.P.Policy.model l.initial.run l.events l.event-index l.run (vec_items l.answers);
      counted : vec_len l.answers ≡ l.event-index;
      room : length l.events ≤ vec_capacity l.answers;
    }
