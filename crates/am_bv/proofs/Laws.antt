-- What proofs of other crates may cite of words, operators and terms.
pub use Rattle.am_bv.proofs.Words.{one_is_word, IsWidth-mask}
pub use Rattle.am_bv.proofs.Operators.{ALL-contains}
pub use Rattle.am_bv.proofs.ByKind.{laws, fold_at, val-Const, val-Field, val-Node, val-unary, val-binary, val-ternary}
pub use Rattle.am_bv.proofs.ByKind.{fits-Const, fits-Field, fits-Node, fits_arity, fits_child, arities-Const}
pub use Rattle.am_bv.proofs.ByKind.{arities-Field, arities-Node, nodes-Const, nodes-Field, nodes-Node, nodes_up_to}
pub use Rattle.am_bv.proofs.ByKind.{weight-Const, weight-Field, weight-Node, rename-Const, rename-Field, rename-Node}
pub use Rattle.am_bv.proofs.ByKind.{arity_most}
pub use Rattle.am_bv.proofs.Induction.{Steps, by_induction}
pub use Rattle.am_bv.proofs.Values.{apply-word, val-word}
pub use Rattle.am_bv.proofs.Fields.{fits-more, val-same, val-rename, fits-rename, nodes-rename, weight-rename}
pub use Rattle.am_bv.proofs.Arities.{fits-arities}
