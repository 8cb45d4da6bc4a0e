-- What is lent to a model beside its record: the memory, and the identification page.
use Rattle.std.specs.Prelude.{ℕ, List}

pub record Lent : Type 0 where
  pub memory : List ℕ
  pub identification : List ℕ

abbrev pub lent : List ℕ → List ℕ → Lent
lent m i = record { memory = m; identification = i }
