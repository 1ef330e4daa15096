-- Lists put one after the other.
use Rattle.std.proofs.Common.{◌≡◌, ℕ, List, ◌++◌, ◌∙◌, ap, append_assoc}

-- some and then more
pub dirs-twice : (old mid later a b : List (List ℕ)) → mid ≡ old ++ a → later ≡ mid ++ b → later ≡ old ++ (a ++ b)
dirs-twice old mid later a b e f = f ∙ ap (λ (dirs : List (List ℕ)). dirs ++ b) e ∙ append_assoc old a b

five : (p m i l r : List (List ℕ)) → (((p ++ m) ++ i) ++ l) ++ r ≡ p ++ (m ++ (i ++ (l ++ r)))
five p m i l r =
    append_assoc ((p ++ m) ++ i) l r ∙ append_assoc (p ++ m) i (l ++ r) ∙ append_assoc p m (i ++ (l ++ r))

-- the four plain ones, and then the splits of five others
five_dirs : (old flat mess info local remote p m i l r : List (List ℕ)) → flat ≡ old ++ p → mess ≡ flat ++ m → info ≡ mess ++ i → local ≡ info ++ l → remote ≡ local ++ r
    → remote ≡ old ++ (p ++ (m ++ (i ++ (l ++ r))))
five_dirs old flat mess info local remote p m i l r e0 e1 e2 e3 e4 =
    dirs-twice old local remote (((p ++ m) ++ i) ++ l) r
    (dirs-twice old info local ((p ++ m) ++ i) l (dirs-twice old mess info (p ++ m) i (dirs-twice old flat mess p m e0 e1) e2) e3) e4
    ∙ ap (λ (dirs : List (List ℕ)). old ++ dirs) (five p m i l r)

-- the four plain ones, and then the splits of each of the others
pub all_dirs : (old flat mess info local remote intdx todox p m i l r x t : List (List ℕ)) → flat ≡ old ++ p → mess ≡ flat ++ m → info ≡ mess ++ i → local ≡ info ++ l
    → remote ≡ local ++ r → intdx ≡ remote ++ x → todox ≡ intdx ++ t → todox ≡ old ++ (p ++ (m ++ (i ++ (l ++ (r ++ (x ++ t))))))
all_dirs old flat mess info local remote intdx todox p m i l r x t e0 e1 e2 e3 e4 e5 e6 =
    five_dirs old flat mess info local todox p m i l (r ++ (x ++ t)) e0 e1 e2 e3 (dirs-twice local intdx todox (r ++ x) t (dirs-twice local remote intdx r x e4 e5) e6 ∙ ap (λ (dirs : List (List ℕ)). local ++ dirs) (append_assoc r x t))
