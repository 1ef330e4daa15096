-- The stems of the default names.
use Rattle.std.proofs.Common.{◌≡◌, ℕ, ◌<◌, List, [], ◌∷◌, ◌++◌, length, map, Bool, true, false, refl, sym, ap, ◌∙◌, inl, inr, ⊎_elim, arith, length-append, append_assoc, subst}
use Rattle.std.specs.Prelude.{if◌then◌else◌, ◌==◌}
use Rattle.std.specs.List.{AllByRecursion}
use Rattle.std.proofs.lemmas.Bool.Decides.{eqb_tells}
use Rattle.dot_qmail.specs.Choice.{dashed, stems, IsStem, StandsByLength}
use Rattle.std.proofs.lemmas.List.Elements.{All-from_recursion}

-- Lists whose elements each meet a fact, by recursion

pub each_append : {A : Type 0} (P : A → Type 0) (xs ys : List A) → AllByRecursion P xs → AllByRecursion P ys → AllByRecursion P (xs ++ ys)
each_append P [] ys h k = k
each_append P (x ∷ xs) ys h k = (h.0, each_append P xs ys h.1 k)

pub each_map : {A B : Type 0} (P : B → Type 0) (Q : A → Type 0) (f : A → B) → ((x : A) → Q x → P (f x)) → (xs : List A) → AllByRecursion Q xs → AllByRecursion P (map f xs)
each_map P Q f g [] h = tt
each_map P Q f g (x ∷ xs) h = (g x h.0, each_map P Q f g xs h.1)

pub each_weaker : {A : Type 0} (P Q : A → Type 0) → ((x : A) → P x → Q x) → (xs : List A) → AllByRecursion P xs → AllByRecursion Q xs
each_weaker P Q g [] h = tt
each_weaker P Q g (x ∷ xs) h = (g x h.0, each_weaker P Q g xs h.1)

pub map_append : {A B : Type 0} (f : A → B) (xs ys : List A) → map f (xs ++ ys) ≡ map f xs ++ map f ys
map_append f [] ys = refl
map_append f (x ∷ xs) ys = ap (λ t. f x ∷ t) (map_append f xs ys)

-- a stem that isn't empty
pub record IsDashed (ext stem : List ℕ) : Type 0 where
  pub rest : List ℕ
  pub begins : ext ≡ stem ++ rest
  pub front : List ℕ
  pub ends : stem ≡ front ++ 45 ∷ []

put_before : (b : ℕ) (rest stem : List ℕ) → IsDashed rest stem → IsDashed (b ∷ rest) (b ∷ stem)
put_before b rest stem h = record { rest = h.rest; begins = ap (λ t. b ∷ t) h.begins; front = b ∷ h.front; ends = ap (λ t. b ∷ t) h.ends }

abbrev alone : ℕ → Bool → List (List ℕ)
alone b dash = if dash then (b ∷ []) ∷ [] else []

only : (b : ℕ) (rest : List ℕ) (t : Bool) → (t ≡ true → b ≡ 45) → AllByRecursion (IsDashed (b ∷ rest)) (alone b t)
only b rest true is = (record { rest = rest; begins = refl; front = []; ends = ap (λ x. x ∷ []) (is refl) }, tt)
only b rest false is = tt

is_dash : (b : ℕ) → (b == 45) ≡ true → b ≡ 45
is_dash b e = ⊎_elim (λ w. w.1) (λ w. absurd (no (b == 45) w.0 e)) (eqb_tells b 45)
  where
    no : (t : Bool) → t ≡ false → t ≡ true → ⊥
    no t e f = cc

pub dashed_sound : (ext : List ℕ) → AllByRecursion (IsDashed ext) (dashed ext)
dashed_sound [] = tt
dashed_sound (b ∷ rest) =
    each_append (IsDashed (b ∷ rest)) (map (λ stem. b ∷ stem) (dashed rest)) (alone b (b == 45))
    (each_map (IsDashed (b ∷ rest)) (IsDashed rest) (λ stem. b ∷ stem) (put_before b rest) (dashed rest) (dashed_sound rest))
    (only b rest (b == 45) (is_dash b))

-- a dashed stem has a byte
has_byte : (ext stem : List ℕ) → IsDashed ext stem → 0 < length stem
has_byte ext stem h = let long = ap length h.ends ∙ length-append h.front (45 ∷ []) in omega arith

-- where a stem stands
pub record Stands (list : List (List ℕ)) (stem : List ℕ) : Type 0 where
  pub before : List (List ℕ)
  pub after : List (List ℕ)
  pub split : list ≡ before ++ stem ∷ after
  pub longer : AllByRecursion (λ other. length stem < length other) before

tail_same : {a b : ℕ} {xs ys : List ℕ} → ◌≡◌ {A = List ℕ} (a ∷ xs) (b ∷ ys) → xs ≡ ys
tail_same e = cc

head_same : {a b : ℕ} {xs ys : List ℕ} → ◌≡◌ {A = List ℕ} (a ∷ xs) (b ∷ ys) → a ≡ b
head_same e = cc

alone_dash : (b : ℕ) → b ≡ 45 → alone b (b == 45) ≡ (b ∷ []) ∷ []
alone_dash b e = ⊎_elim (λ w. ap (alone b) w.0) (λ w. absurd (w.1 e)) (eqb_tells b 45)

-- with a byte before each stem
stands_before : (b : ℕ) (list more : List (List ℕ)) (stem : List ℕ) → Stands list stem → Stands (map (λ s. b ∷ s) list ++ more) (b ∷ stem)
stands_before b list more stem h = record {
  before = map (λ s. b ∷ s) h.before;
  after = map (λ s. b ∷ s) h.after ++ more;
  split = ap (λ t. map (λ s. b ∷ s) t ++ more) h.split ∙ ap (λ t. t ++ more) (map_append (λ s. b ∷ s) h.before (stem ∷ h.after))
      ∙ append_assoc (map (λ s. b ∷ s) h.before) ((b ∷ stem) ∷ map (λ s. b ∷ s) h.after) more;
  longer = each_map (λ other. length (b ∷ stem) < length other) (λ other. length stem < length other) (λ s. b ∷ s) (λ x lt. omega arith) h.before h.longer;
}

-- the stem of one byte comes after all the others
stands_last : (b : ℕ) (rest : List ℕ) → b ≡ 45 → Stands (dashed (b ∷ rest)) (b ∷ [])
stands_last b rest e = record {
  before = map (λ s. b ∷ s) (dashed rest);
  after = [];
  split = ap (λ t. map (λ s. b ∷ s) (dashed rest) ++ t) (alone_dash b e);
  longer = each_map (λ other. length (b ∷ []) < length other) (IsDashed rest) (λ s. b ∷ s) (λ x h. let some = has_byte rest x h in omega arith) (dashed rest) (dashed_sound rest);
}

no_dash : (front : List ℕ) → ◌≡◌ {A = List ℕ} [] (front ++ 45 ∷ []) → ⊥
no_dash [] e = cc
no_dash (x ∷ front) e = cc

dashed_stands : (ext stem rest front : List ℕ) → ext ≡ stem ++ rest → stem ≡ front ++ 45 ∷ [] → Stands (dashed ext) stem
dashed_stands ext [] rest front begins ends = absurd (no_dash front ends)
dashed_stands [] (b ∷ stem) rest front begins ends = absurd (nothing begins)
  where
    nothing : ◌≡◌ {A = List ℕ} [] (b ∷ (stem ++ rest)) → ⊥
    nothing e = cc
dashed_stands (c ∷ ext) (b ∷ stem) rest [] begins ends =
    let is_short : c ∷ [] ≡ b ∷ stem = ap (λ t. t ∷ []) (head_same begins) ∙ ap (λ t. b ∷ t) (sym (tail_same ends)) in
    subst (Stands (dashed (c ∷ ext))) is_short (stands_last c ext (head_same begins ∙ head_same ends))
dashed_stands (c ∷ ext) (b ∷ stem) rest (x ∷ front) begins ends =
    subst (λ d. Stands (dashed (c ∷ ext)) (d ∷ stem)) (head_same begins)
    (stands_before c (dashed ext) (alone c (c == 45)) stem (dashed_stands ext stem rest front (tail_same begins) (tail_same ends)))

-- The stems

pub stems_sound : (ext : List ℕ) → AllByRecursion (IsStem ext) (stems ext)
stems_sound ext =
    each_append (IsStem ext) (dashed ext) ([] ∷ [])
    (each_weaker (IsDashed ext) (IsStem ext) (λ s h. record { rest = h.rest; begins = h.begins; ends = inr (h.front, h.ends) }) (dashed ext) (dashed_sound ext))
    (record { rest = ext; begins = refl; ends = inl refl }, tt)

pub stems_stand : (ext stem : List ℕ) → IsStem ext stem → Stands (stems ext) stem
stems_stand ext stem h = ⊎_elim
    (λ none. subst (Stands (stems ext)) (sym none) (record {
      before = dashed ext;
      after = [];
      split = refl;
      longer = each_weaker (IsDashed ext) (λ other. 0 < length other) (has_byte ext) (dashed ext) (dashed_sound ext);
    }))
    (λ w.
    let d = dashed_stands ext stem h.rest w.0 h.begins w.1 in
    record { before = d.before; after = d.after ++ [] ∷ []; split = ap (λ t. t ++ [] ∷ []) d.split ∙ append_assoc d.before (stem ∷ d.after) ([] ∷ []); longer = d.longer })
    h.ends

pub stems_by_length : (ext stem : List ℕ) → IsStem ext stem → StandsByLength (stems ext) stem
stems_by_length ext stem h =
    let s = stems_stand ext stem h in
    record { before = s.before; after = s.after; split = s.split; longer = All-from_recursion (λ other. length stem < length other) s.before s.longer }
