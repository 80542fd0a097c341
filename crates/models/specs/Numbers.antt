-- The numbers of the axioms and of the models.
use Rattle.std.specs.Prelude.{ℕ, Option, Some, None, ◌==◌, if◌then◌else◌}
use Rattle.models.specs.declared.axiom.Axiom.{Axiom}
use Rattle.models.specs.declared.axiom.Axiom.TheVariants.{Causality, WriteCoherence, ReadCoherence, Atomicity}
use Rattle.models.specs.declared.name.ModelName.{ModelName}
use Rattle.models.specs.declared.name.ModelName.TheVariants.{Rc20, Ra, Sra, Wra, Relaxed}

abbrev pub axiom_number : Axiom → ℕ
axiom_number Causality = 1
axiom_number WriteCoherence = 2
axiom_number ReadCoherence = 3
axiom_number Atomicity = 4

abbrev pub model_number : ModelName → ℕ
model_number Rc20 = 1
model_number Ra = 2
model_number Sra = 3
model_number Wra = 4
model_number Relaxed = 5

abbrev pub model_of : ℕ → Option ModelName
model_of n = if n == 1 then Some Rc20 else if n == 2 then Some Ra else if n == 3 then Some Sra else if n == 4 then Some Wra else if n == 5 then Some Relaxed else None
