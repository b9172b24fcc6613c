-- Induction on a term, with its arguments as a list.
use Rattle.std.proofs.Common.{◌≡◌, ℕ, List, subst, sym, ap, ◌∙◌}
use Rattle.std.specs.List.{AllByRecursion}
use Rattle.am_bv.specs.declared.op.Op.{Op}
use Rattle.am_bv.specs.declared.term.Term.{Term, Node', Row_of-Term, end_of-Term, more_of-Term, roll-Term}
use Rattle.am_bv.specs.declared.term.Term.{roll-out-Term, items-the_row-Term, items_shown-the_row-Term-0}
use Rattle.am_bv.specs.declared.term.Term.TheVariants.{Const, Field, Node, rolls-Node, outs-Node'}
use Rattle.am_bv.specs.declared.term.Term.TheBlock.{shown-the_row-Term-0}

-- what an induction on terms has to show: the fact at leaves, and at a node of whose arguments it holds
pub record Steps (P : Term → Type 0) : Type 0 where
  pub const : (c : ℕ) → P (Const c)
  pub field : (i : ℕ) → P (Field i)
  pub node : (op : Op) (ts : List Term) → AllByRecursion P ts → P (Node op ts)

mutual
  -- what the steps show holds of every term
  pub by_induction : (P : Term → Type 0) → Steps P → (t : Term) → P t
  by_induction P s (Const c) = s.const c
  by_induction P s (Field i) = s.field i
  by_induction P s (Node' op shape row) =
      let ts = shown-the_row-Term-0 shape row in
      let e : Node op ts ≡ Node' op shape row =
      sym (rolls-Node op ts) ∙ ap roll-Term (sym (outs-Node' op shape row)) ∙ roll-out-Term (Node' op shape row) in
      subst P e (s.node op ts (subst (AllByRecursion P) (sym (items_shown-the_row-Term-0 shape row)) (each P s row)))

  each : (P : Term → Type 0) → Steps P → {m : _} → (row : Row_of-Term m) → AllByRecursion P (items-the_row-Term m row)
  each P s end_of-Term = tt
  each P s (more_of-Term t rest) = (by_induction P s t, each P s rest)
