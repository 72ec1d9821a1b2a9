-- What a policy over an order means. Assumes nothing.
use Rattle.std.specs.Prelude.{ℕ, ◌+◌}
use Rattle.policy.specs.Model.{Model}
use Rattle.ordered.specs.Orders.{OrderModel}

-- a standing: the order, and the faults counted
pub record Kept (O : Type 0) : Type 0 where
  pub order : O
  pub faults : ℕ

abbrev pub kept : {O : Type 0} → O → ℕ → Kept O
kept x n = record { order = x; faults = n }

-- it has no settings; load, hit, drop and give go to the order
abbrev pub ordered : {O : Type 0} → OrderModel O → Model (Kept O)
ordered {O = O} o = record {
  Order = O;
  Setting = Unit {0};
  pages = λ s. o.pages s.order;
  count = λ s. s.faults;
  order = λ s. s.order;
  setting = λ s. tt;
  Fine = λ s. Unit {0};
  opening = λ x. kept o.empty 0;
  on_fault = λ s p. kept s.order (s.faults + 1);
  on_load = λ s p. kept (o.on_put s.order p) s.faults;
  on_hit = λ s p. kept (o.on_hit s.order p) s.faults;
  on_drop = λ s p. kept (o.on_remove s.order p) s.faults;
  gives = λ s. o.takes s.order;
  on_give = λ s. kept (o.on_take s.order) s.faults;
}
