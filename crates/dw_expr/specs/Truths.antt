-- The three-valued logic of the SQL standard, and truths as values: what is unknown is NULL.
use Rattle.std.specs.Prelude.{true, false}
use Rattle.dw_value.specs.declared.kinds.Truth.{Truth}
use Rattle.dw_value.specs.declared.kinds.Truth.TheVariants.{False, Unknown, True}
use Rattle.dw_value.specs.declared.values.Value.{Value}
use Rattle.dw_value.specs.declared.values.Value.TheVariants.{Truth as Logical, Null}

-- AND: false where one side is, else unknown where one side is
abbrev pub conjunction : Truth → Truth → Truth
conjunction False b = False
conjunction a False = False
conjunction True True = True
conjunction a b = Unknown

-- OR: true where one side is, else unknown where one side is
abbrev pub disjunction : Truth → Truth → Truth
disjunction True b = True
disjunction a True = True
disjunction False False = False
disjunction a b = Unknown

-- NOT: what is unknown stays so
abbrev pub negation : Truth → Truth
negation False = True
negation Unknown = Unknown
negation True = False

-- the truth that a value is: unknown for NULL, and for what is no truth
abbrev pub truth_in : Value → Truth
truth_in (Logical true) = True
truth_in (Logical false) = False
truth_in value = Unknown

-- a truth as a value
abbrev pub truth_value : Truth → Value
truth_value True = Logical true
truth_value False = Logical false
truth_value Unknown = Null
