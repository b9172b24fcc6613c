-- The law of a domain's name.
use Rattle.std.proofs.Common.{◌≡◌, Some, bytes_eq, ap, sym, refl}
use Rattle.am_problem.specs.declared.kind.Kind.{Kind}
use Rattle.am_problem.specs.declared.kind.Kind.TheVariants.{UInterval}
use Rattle.am_problem.specs.Grammar.{domain, domain_judge, kind_named}
use Rattle.am_problem.specs.Kinds.{all_kinds, kind_name}
use Rattle.am_syntax.specs.Exact.{IsExact, always}
use Rattle.am_syntax.specs.Names.{named}
use Rattle.am_syntax.specs.Readers.{Word}
use Rattle.am_syntax.proofs.Laws.{found_passes, named_some, same_bytes, token_law}

kind_named-name : (kind : Kind) → kind_named (kind_name kind) ≡ Some kind
unfolding kind_named
kind_named-name UInterval = refl
kind_named-name _ = refl

kind_of_name : (v : Word) (kind : Kind) → kind_named v ≡ Some kind → v ≡ kind_name kind
unfolding kind_named
kind_of_name v kind e =
    sym (same_bytes (kind_name kind) v (found_passes (λ kind. bytes_eq (kind_name kind) v) all_kinds kind e))

-- the name of a domain is read exactly as it is spelled
pub domain_law : IsExact domain always
unfolding domain
domain_law = token_law domain_judge kind_name (λ _. Unit {0})
    (λ v kind e. (kind_of_name v kind (named_some (kind_named v) v kind e), tt))
    (λ kind h. ap (λ o. named o (kind_name kind)) (kind_named-name kind))
