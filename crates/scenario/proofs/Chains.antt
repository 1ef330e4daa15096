-- Lists whose elements follow one after the other.
use Rattle.std.proofs.Common.{◌≡◌, ◌⊎◌, ⊎_elim, ℕ, zero, suc, ◌<◌, ◌≤◌, List, [], ◌∷◌, length, refl, ap, ◌∙◌, subst, arith}
use Rattle.std.proofs.lemmas.Bool.{cases_lt}
use Rattle.scenario.specs.Chains.{EachFollows}

-- One element may follow others at most, and none where the list stops

-- as many elements are the same
same_chain : {X : Type 0} (Follows : List X → X → Type 0) → ((before : List X) (x y : X) → Follows before x → Follows before y → x ≡ y)
    → (e f : List X) → EachFollows Follows e → EachFollows Follows f → length e ≡ length f → e ≡ f
same_chain Follows one [] [] p q same = refl
same_chain Follows one [] (y ∷ f) p q same = absurd (omega arith)
same_chain Follows one (x ∷ e) [] p q same = absurd (omega arith)
same_chain {X} Follows one (x ∷ e) (y ∷ f) p q same =
    let rest : e ≡ f = same_chain Follows one e f p.0 q.0 (omega arith) in
    let first : x ≡ y = one f x y (subst (λ (g : List X). Follows g x) rest p.1) q.1 in
    ap (λ (b : X). b ∷ e) first ∙ ap (λ (g : List X). y ∷ g) rest

-- if there are more, one follows the fewer
one_more : {X : Type 0} (Follows : List X → X → Type 0) → ((before : List X) (x y : X) → Follows before x → Follows before y → x ≡ y)
    → (e f : List X) → EachFollows Follows e → EachFollows Follows f → length e < length f → (x : X) × Follows e x
one_more Follows one e [] p q fewer = absurd (omega arith)
one_more {X} Follows one e (y ∷ f) p q fewer = ⊎_elim
    (λ less. one_more Follows one e f p q.0 less)
    (λ all. let rest : f ≡ e = same_chain Follows one f e q.0 p (omega arith) in (y, subst (λ (g : List X). Follows g y) rest q.1))
    (cases_lt (length e) (length f))

pub one_chain : {X : Type 0} (Follows : List X → X → Type 0) (Stops : List X → Type 0)
    → ((before : List X) (x y : X) → Follows before x → Follows before y → x ≡ y)
    → ((before : List X) (x : X) → Stops before → Follows before x → ⊥)
    → (e f : List X) → EachFollows Follows e → EachFollows Follows f → Stops e → Stops f → e ≡ f
one_chain Follows Stops one none e f p q stops ends = ⊎_elim
    (λ less. let more = one_more Follows one e f p q less in absurd (none e more.0 stops more.1))
    (λ least. ⊎_elim
    (λ less. let more = one_more Follows one f e q p less in absurd (none f more.0 ends more.1))
    (λ most. same_chain Follows one e f p q (omega arith))
    (cases_lt (length f) (length e)))
    (cases_lt (length e) (length f))

-- A list that stops, or that one more element follows, grows until it stops, if something becomes less with each

pub record Grown {X : Type 0} (Follows : List X → X → Type 0) (Stops : List X → Type 0) : Type 0 where
  pub list : List X
  pub follow : EachFollows Follows list
  pub stops : Stops list

pub record OneMore {X : Type 0} (Follows : List X → X → Type 0) (Keeps : List X → Type 0) (left : List X → ℕ) (before : List X) : Type 0 where
  pub newest : X
  pub follows : Follows before newest
  pub keeps : Keeps (newest ∷ before)
  pub less : left (newest ∷ before) < left before

pub grow : {X : Type 0} (Follows : List X → X → Type 0) (Stops Keeps : List X → Type 0) (left : List X → ℕ)
    → ((before : List X) → EachFollows Follows before → Keeps before → Stops before ⊎ OneMore Follows Keeps left before)
    → (n : ℕ) (before : List X) → EachFollows Follows before → Keeps before → left before ≤ n → Grown Follows Stops
grow Follows Stops Keeps left next zero before follow keeps within = ⊎_elim
    (λ stops. record { list = before; follow = follow; stops = stops })
    (λ more. let less = more.less in absurd (omega arith))
    (next before follow keeps)
grow Follows Stops Keeps left next (suc n) before follow keeps within = ⊎_elim
    (λ stops. record { list = before; follow = follow; stops = stops })
    (λ more. grow Follows Stops Keeps left next n (more.newest ∷ before) (follow, more.follows) more.keeps (let less = more.less in omega arith))
    (next before follow keeps)
