-- How operators are called, and the word that names one.
use Rattle.std.specs.Prelude.{Bool, is_some, ◌||◌, if◌then◌else◌, find, Option, Some, None, Result, Ok, Err, bytes_eq}
use Rattle.std.specs.Prelude.{codes}
use Rattle.am_bv.specs.declared.op.Op.{Op}
use Rattle.am_bv.specs.declared.op.TheConstants.Op.{ALL}
use Rattle.am_bv.specs.declared.op.Op.TheVariants.{Not, Neg, And, Or, Xor, Add, Sub, Mul, Udiv, Urem, Shl, Lshr, Ashr}
use Rattle.am_bv.specs.declared.op.Op.TheVariants.{Eq, Ult, Ule, Slt, Sle, Umin, Umax, Smin, Smax, Ite}
use Rattle.am_syntax.specs.declared.refusal.Cause.{Cause}
use Rattle.am_syntax.specs.declared.refusal.Cause.TheVariants.{Syntax, Name}
use Rattle.am_syntax.specs.Readers.{Word}
use Rattle.am_syntax.specs.Pieces.{Piece, token}

-- the name of an operator
abbrev pub op_name : Op → Word
op_name Not = codes "not"
op_name Neg = codes "neg"
op_name And = codes "and"
op_name Or = codes "or"
op_name Xor = codes "xor"
op_name Add = codes "add"
op_name Sub = codes "sub"
op_name Mul = codes "mul"
op_name Udiv = codes "udiv"
op_name Urem = codes "urem"
op_name Shl = codes "shl"
op_name Lshr = codes "lshr"
op_name Ashr = codes "ashr"
op_name Eq = codes "eq"
op_name Ult = codes "ult"
op_name Ule = codes "ule"
op_name Slt = codes "slt"
op_name Sle = codes "sle"
op_name Umin = codes "umin"
op_name Umax = codes "umax"
op_name Smin = codes "smin"
op_name Smax = codes "smax"
op_name Ite = codes "ite"

-- the operator of this name
unfoldable pub op_named : Word → Option Op
op_named word = find (λ op. bytes_eq (op_name op) word) ALL

-- whether the word names an operator
abbrev pub is_op_name : Word → Bool
is_op_name word = is_some (op_named word)

-- why a word is refused that names nothing: a parenthesis is no name, and each other word is one
abbrev pub no_name : Word → Cause
no_name v = if bytes_eq v (codes "(") || bytes_eq v (codes ")") then Syntax else Name

-- what a table has under this name
abbrev pub named : {X : Type 0} → Option X → Word → Result X Cause
named (Some x) v = Ok x
named None v = Err (no_name v)

-- an operator's name
abbrev pub operator_judge : Word → Result Op Cause
operator_judge v = named (op_named v) v

-- an operator by its name
unfoldable pub operator : Piece Op
operator = token operator_judge op_name (λ _. Unit {0})
