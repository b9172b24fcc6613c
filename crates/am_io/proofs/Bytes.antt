-- What calls in turn do to known bytes.
use Rattle.std.proofs.Common.{◌≡◌, ℕ, ◌+◌, ◌-◌, ◌≤◌, List, ◌++◌, None, Some, sym, ap, ◌∙◌, length, take, drop, arith}
use Rattle.std.proofs.Common.{length-append, length-take, length-drop, take-add, IfSome}
use Rattle.std.proofs.lemmas.List.{take_all, take-append-le, take-append-drop, drop-drop}
use Rattle.std.specs.declared.option.Option.{Option}
use Rattle.std.specs.Io.KnownBytes.{Appends, Consumes}
use Rattle.std.proofs.KnownBytes.{Appends-trans, Consumes-trans}
use Rattle.am_io.specs.Streams.{Loses, LosesAtMost}

-- a prefix of a text, and then a prefix of the rest
pub Appends-more : (a b c : Option (List ℕ)) (xs : List ℕ) (m n : ℕ) →
    Appends a b (take m xs) → Appends b c (take n (drop m xs)) → Appends a c (take (m + n) xs)
Appends-more a b c xs m n p q = rw take-add (Appends-trans a b c (take m xs) (take n (drop m xs)) p q)

-- xs, and then n bytes from the front of ys
pub Loses-more : (a b c : Option (List ℕ)) (xs ys : List ℕ) (n : ℕ) →
    Consumes a b xs → Consumes b c (take n ys) → n ≤ length ys → Loses a c (length xs + n)
Loses-more a b c xs ys n p q le =
    (xs ++ take n ys, Consumes-trans a b c xs (take n ys) p q, simp (length-append, length-take) (omega arith))

-- xs, and then n bytes from the front of ys, are no more than m bytes lost where they are no more than m
pub LosesAtMost-more : (a b c : Option (List ℕ)) (xs ys : List ℕ) (n m : ℕ) →
    Consumes a b xs → Consumes b c (take n ys) → n ≤ length ys → length xs + n ≤ m → LosesAtMost a c m
LosesAtMost-more a b c xs ys n m p q le within =
    let more = Loses-more a b c xs ys n p q le in (more.0, more.1, omega (arith, more.2, within))

-- a source that tells its bytes and lost n of them had n bytes
pub Loses-length : (a b : Option (List ℕ)) (n : ℕ) → Loses a b n → IfSome a (λ xs. n ≤ length xs)
Loses-length None b n lost = tt
Loses-length (Some xs) None n lost = absurd lost.1
Loses-length (Some xs) (Some ys) n lost = omega (arith, ap length lost.1 ∙ length-append lost.0 ys, lost.2)

-- the rest of a text, all of it
pub take-rest : (xs : List ℕ) (m : ℕ) → take (length xs - m) (drop m xs) ≡ drop m xs
take-rest xs m = take_all (length xs - m) (drop m xs) (omega (arith, length-drop m xs))

-- n bytes from the place m of bs, put at the front of a buffer
pub take_from_place : (bs ys zs : List ℕ) (m n : ℕ) → ys ≡ take (m + n - m) (drop m bs) → m + n ≤ length bs →
    drop m bs ≡ take n (ys ++ zs) ++ drop (m + n) bs
take_from_place bs ys zs m n moved within =
    let few : m + n - m ≡ n = omega arith in
    let moved' : ys ≡ take n (drop m bs) = moved ∙ ap (λ k. take k (drop m bs)) few in
    let len : length ys ≡ n = ap length moved' ∙ simp (length-take, length-drop) (omega arith) in
    let front : take n (ys ++ zs) ≡ ys = take-append-le n ys zs (omega arith) ∙ take_all n ys (omega arith) in
    sym (take-append-drop n (drop m bs))
    ∙ ap (λ t. t ++ drop n (drop m bs)) (sym (front ∙ moved'))
    ∙ ap (λ t. take n (ys ++ zs) ++ t) (drop-drop n m bs)
