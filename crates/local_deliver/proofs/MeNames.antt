-- Names: each is its own, and no file of instructions is control/me.
use Rattle.std.proofs.Common.{◌≡◌, ℕ, List, [], ◌∷◌, ◌++◌, Bool, true, false, Option, Some, None, refl, sym, ap, ◌∙◌, codes}
use Rattle.std.specs.Prelude.{map, slice_index_or, bytes_eq, ◌&&◌, ◌||◌, ◌==◌}
use Rattle.std.specs.Option.{option_or}
use Rattle.std.proofs.lemmas.Bool.{false≢true, false_from_ne_true}
use Rattle.std.proofs.lemmas.Slice.Eq.{bytes_eq-Decides}
use Rattle.dot_qmail.specs.declared.choice.Chosen.TheVariants.{File}
use Rattle.dot_qmail.specs.Choice.{bare_choice, chosen, dash_choice, default_name, first_place, looked_for, place_of, safe, stems}
use Rattle.dot_qmail.proofs.Places.{Found, found}
use Rattle.dot_qmail.proofs.Places.Found.{There, Nowhere}
use Rattle.local_parts.specs.declared.arguments.LocalArgs.{LocalArgs}
use Rattle.local_parts.specs.Choosing.{chosen_by, file_name}
use Rattle.local_deliver.specs.Deeds.{me_name}

pub same_name : (name : List ℕ) → bytes_eq name name ≡ true
same_name name = (bytes_eq-Decides name name).1 refl

-- A text with `/.` in it

has_dot : List ℕ → Bool
has_dot [] = false
has_dot (a ∷ []) = false
has_dot (a ∷ b ∷ rest) = (a == 47 && b == 46) || has_dot (b ∷ rest)

or_true : (t : Bool) → (t || true) ≡ true
or_true true = refl
or_true false = refl

dotted : (front rest : List ℕ) → has_dot (front ++ 47 ∷ 46 ∷ rest) ≡ true
unfolding has_dot
dotted [] rest = refl
dotted (a ∷ []) rest = ap (λ t. (a == 47 && 47 == 46) || t) (dotted [] rest) ∙ or_true (a == 47 && 47 == 46)
dotted (a ∷ b ∷ more) rest = ap (λ t. (a == 47 && b == 46) || t) (dotted (b ∷ more) rest) ∙ or_true (a == 47 && b == 46)

not_me : (front rest : List ℕ) → bytes_eq (front ++ 47 ∷ 46 ∷ rest) me_name ≡ false
unfolding has_dot
not_me front rest = false_from_ne_true (bytes_eq (front ++ 47 ∷ 46 ∷ rest) me_name)
    (λ e. let same = (bytes_eq-Decides (front ++ 47 ∷ 46 ∷ rest) me_name).0 e in false≢true (ap has_dot (sym same) ∙ dotted front rest))

-- The names that are looked for begin with a dot

abbrev BeginsDotted : List ℕ → Type 0
BeginsDotted name = (rest : List ℕ) × (name ≡ 46 ∷ rest)

abbrev AllDotted : List (List ℕ) → Type 0
AllDotted [] = Unit {0}
AllDotted (name ∷ more) = BeginsDotted name × AllDotted more

defaults_dotted : (dash : List ℕ) (each : List (List ℕ)) → AllDotted (map (default_name dash) each)
defaults_dotted dash [] = tt
defaults_dotted dash (stem ∷ more) = ((_, refl), defaults_dotted dash more)

some_place : {a b : ℕ} → ◌≡◌ {A = Option ℕ} (Some a) (Some b) → a ≡ b
some_place e = cc

no_place : {a : ℕ} → ◌≡◌ {A = Option ℕ} None (Some a) → ⊥
no_place e = cc

of_first : (names : List (List ℕ)) (name : List ℕ) (looked : List (List ℕ)) (place : ℕ) → BeginsDotted name → option_or (place_of names name) (first_place names looked) ≡ Some place
    → (first_place names looked ≡ Some place → BeginsDotted (slice_index_or names place [])) → Found names name → BeginsDotted (slice_index_or names place [])
of_first names name looked place h e later (There here is stands) =
    let same : here ≡ place = some_place (sym (ap (λ o. option_or o (first_place names looked)) is) ∙ e) in
    (h.0, ap (λ k. slice_index_or names k []) (sym same) ∙ stands.here ∙ h.1)
of_first names name looked place h e later (Nowhere is missing) = later (sym (ap (λ o. option_or o (first_place names looked)) is) ∙ e)

first_dotted : (names looked : List (List ℕ)) (place : ℕ) → AllDotted looked → first_place names looked ≡ Some place → BeginsDotted (slice_index_or names place [])
first_dotted names [] place all e = absurd (no_place e)
first_dotted names (name ∷ looked) place all e = of_first names name looked place all.0 e (λ f. first_dotted names looked place all.1 f) (found names name)

of_bare : (names : List (List ℕ)) (place : ℕ) (o : Option ℕ) → place_of names (codes ".qmail") ≡ o → bare_choice o ≡ Some (File place) → BeginsDotted (slice_index_or names place [])
of_bare names place None e is = absurd (cc)
of_bare names place (Some at) e is =
    let same : at ≡ place = cc in
    first_dotted names (codes ".qmail" ∷ []) place ((_, refl), tt) (ap (λ o. option_or o None) e ∙ ap Some same)

of_dash : (names looked : List (List ℕ)) (place : ℕ) (o : Option ℕ) → AllDotted looked → first_place names looked ≡ o → dash_choice o ≡ Some (File place)
    → BeginsDotted (slice_index_or names place [])
of_dash names looked place None all e is = absurd (cc)
of_dash names looked place (Some at) all e is = let same : at ≡ place = cc in first_dotted names looked place all (e ∙ ap Some same)

of_choice : (names : List (List ℕ)) (dash ext : List ℕ) (place : ℕ) → chosen names dash ext ≡ Some (File place) → BeginsDotted (slice_index_or names place [])
unfolding chosen
of_choice names [] ext place is = of_bare names place (place_of names (codes ".qmail")) refl is
of_choice names (d ∷ dash) ext place is =
    of_dash names (looked_for (d ∷ dash) (safe ext)) place (first_place names (looked_for (d ∷ dash) (safe ext))) ((_, refl), defaults_dotted (d ∷ dash) (stems (safe ext))) refl is

pub no_me : (args : LocalArgs) (names : List (List ℕ)) (place : ℕ) → chosen_by args names ≡ Some (File place) → bytes_eq (file_name args names place) me_name ≡ false
no_me args names place is =
    let w = of_choice names args.dash args.ext place is in
    ap (λ name. bytes_eq (args.home ++ 47 ∷ name) me_name) w.1 ∙ not_me args.home w.0
