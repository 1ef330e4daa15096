-- Any list has its items in order, each once.
use Rattle.std.proofs.Common.{◌≡◌, ◌⊎◌, inl, inr, ⊎_elim, ℕ, zero, suc, ◌+◌, ◌<◌, List, [], ◌∷◌, get_or, Contains, AllPairs, Ordering, Less, Equal, Greater, nat_cmp, refl, sym, ap, ◌∙◌, subst, arith}
use Rattle.std.specs.Ordering.{ordering_reverse}
use Rattle.std.specs.Cmp.{IsTotalOrder}
use Rattle.std.specs.List.Sorted.{IsStrictlyIncreasing}
use Rattle.std.proofs.lemmas.Cmp.{ranked, by_ranked}
use Rattle.std.proofs.lemmas.List.Elements.{Contains-get_or}
use Rattle.call_fs.specs.Disk.{Among}

pub contains_among : {X : Type 0} (xs : List X) (x : X) → Contains xs x → Among x xs
contains_among [] x (k, within, is) = absurd (omega arith)
contains_among (y ∷ xs) x (zero, within, is) = inl (sym is)
contains_among (y ∷ xs) x (suc k, within, is) = inr (contains_among xs x (k, omega arith, is))

pub among_contains : {X : Type 0} (xs : List X) (x : X) → Among x xs → Contains xs x
among_contains [] x here = absurd here
among_contains (y ∷ xs) x (inl e) = (0, omega arith, sym e)
among_contains (y ∷ xs) x (inr here) =
    let rest = among_contains xs x here in
    (suc rest.0, let within = rest.1 in omega arith, rest.2)

-- what is among the items of a list that pass a test
pub record Passing {X : Type 0} (P : X → Type 0) (xs : List X) : Type 0 where
  pub items : List X
  pub on : (x : X) → Among x items → Among x xs × P x
  pub all : (x : X) → Among x xs → P x → Among x items

pub passing : {X : Type 0} (P : X → Type 0) → ((x : X) → P x ⊎ (¬ (P x))) → (xs : List X) → Passing P xs
passing P tells [] = record { items = []; on = λ x here. absurd here; all = λ x here p. here }
passing P tells (y ∷ xs) =
    let rest = passing P tells xs in
    ⊎_elim
    (λ p. record {
      items = y ∷ rest.items;
      on = λ x here. ⊎_elim
          (λ e. (inl e, subst P (sym e) p))
          (λ in_rest. let w = rest.on x in_rest in (inr w.0, w.1))
          here;
      all = λ x here q. ⊎_elim (λ e. inl e) (λ later. inr (rest.all x later q)) here;
    })
    (λ fails. record {
      items = rest.items;
      on = λ x here. let w = rest.on x here in (inr w.0, w.1);
      all = λ x here q. ⊎_elim (λ e. absurd (fails (subst P e q))) (λ later. rest.all x later q) here;
    })
    (tells y)

module _ {K : Type 0} (R : K → K → Ordering) (total : IsTotalOrder R) (exact : (a b : K) → R a b ≡ Equal → a ≡ b) where
  -- each item lies below all after it
  abbrev Rises : List K → Type 0
  Rises [] = Unit {0}
  Rises (x ∷ xs) = ((y : K) → Among y xs → R x y ≡ Less) × Rises xs

  -- a list in order, with one item more
  record With (x : K) (ys : List K) : Type 0 where
    items : List K
    on : (z : K) → Among z items → (z ≡ x) ⊎ Among z ys
    all : (z : K) → (z ≡ x) ⊎ Among z ys → Among z items
    rises : Rises items

  with_by : (o : Ordering) (x y : K) (ys : List K) → R x y ≡ o → Rises (y ∷ ys) → With x ys → With x (y ∷ ys)
  with_by Less x y ys is r more = record {
    items = x ∷ y ∷ ys;
    on = λ z here. here;
    all = λ z here. here;
    rises = (
      λ z here. ⊎_elim
          (λ e. subst (λ q. R x q ≡ Less) (sym e) is)
          (λ later. total.trans x y z is (r.0 z later))
          here,
      r,
    );
  }
  with_by Equal x y ys is r more = record {
    items = y ∷ ys;
    on = λ z here. inr here;
    all = λ z here. ⊎_elim (λ e. inl (e ∙ exact x y is)) (λ later. later) here;
    rises = r;
  }
  with_by Greater x y ys is r more =
      let below : R y x ≡ Less = total.antisymm y x ∙ ap ordering_reverse is in
      record {
        items = y ∷ more.items;
        on = λ z here. ⊎_elim
            (λ e. inr (inl e))
            (λ later. ⊎_elim (λ e. inl e) (λ old. inr (inr old)) (more.on z later))
            here;
        all = λ z here. ⊎_elim
            (λ e. inr (more.all z (inl e)))
            (λ old. ⊎_elim (λ e. inl e) (λ later. inr (more.all z (inr later))) old)
            here;
        rises = (
          λ z here. ⊎_elim (λ e. subst (λ q. R y q ≡ Less) (sym e) below) (λ old. r.0 z old) (more.on z here),
          more.rises,
        );
      }

  put_in : (x : K) (ys : List K) → Rises ys → With x ys
  put_in x [] r = record {
    items = x ∷ [];
    on = λ z here. here;
    all = λ z here. here;
    rises = (λ z here. absurd here, tt);
  }
  put_in x (y ∷ ys) r = with_by (R x y) x y ys refl r (put_in x ys r.1)

  pub record Ordered (xs : List K) : Type 0 where
    pub items : List K
    pub on : (z : K) → Among z items → Among z xs
    pub all : (z : K) → Among z xs → Among z items
    pub rises : Rises items

  pub ordered : (xs : List K) → Ordered xs
  ordered [] = record { items = []; on = λ z here. here; all = λ z here. here; rises = tt }
  ordered (x ∷ xs) =
      let rest = ordered xs in
      let more = put_in x rest.items rest.rises in
      record {
        items = more.items;
        on = λ z here. ⊎_elim (λ e. inl e) (λ old. inr (rest.on z old)) (more.on z here);
        all = λ z here. more.all z (⊎_elim (λ e. inl e) (λ later. inr (rest.all z later)) here);
        rises = more.rises;
      }

  pub rises_pairs : (xs : List K) → Rises xs → AllPairs (λ low high. R low high ≡ Less) xs
  rises_pairs [] r i j d low high = absurd (omega arith)
  rises_pairs (x ∷ xs) r i zero d low high = absurd (omega arith)
  rises_pairs (x ∷ xs) r zero (suc j) d low high =
      r.0 (get_or xs j d) (contains_among xs (get_or xs j d) (Contains-get_or xs j d (omega arith)))
  rises_pairs (x ∷ xs) r (suc i) (suc j) d low high = rises_pairs xs r.1 i j d (omega arith) (omega arith)

-- a number that compares as less is less
pub less_is : (a b : ℕ) → nat_cmp a b ≡ Less → a < b
less_is a b e =
    by_ranked (a < b) (a ≡ b) (b < a) (nat_cmp a b) (ranked a b (nat_cmp a b) refl)
    (λ o h. h) (λ o h. absurd (cc (o, e))) (λ o h. absurd (cc (o, e)))

pub equal_is : (a b : ℕ) → nat_cmp a b ≡ Equal → a ≡ b
equal_is a b e =
    by_ranked (a < b) (a ≡ b) (b < a) (nat_cmp a b) (ranked a b (nat_cmp a b) refl)
    (λ o h. absurd (cc (o, e))) (λ o h. h) (λ o h. absurd (cc (o, e)))

pub pairs_increase : (xs : List ℕ) → AllPairs (λ low high. nat_cmp low high ≡ Less) xs → IsStrictlyIncreasing xs
pairs_increase xs pairs k within =
    less_is (get_or xs k 0) (get_or xs (k + 1) 0) (pairs k (k + 1) 0 (omega arith) within)
