-- A name and its file: on a disk as it is, and after one name or one file changed.
use Rattle.std.proofs.Common.{◌≡◌, ◌≢◌, ℕ, List, Option, Some, None, option_map, refl, sym, ap, ◌∙◌}
use Rattle.call_fs.specs.Maps.{put, put_at}
use Rattle.call_fs.specs.Disk.{File}
use Rattle.queue_paths.specs.Names.{Name, path}
use Rattle.call_fs.proofs.Maps.{put_same, put_other, put_at_same, put_at_other}
use Rattle.queue_paths.proofs.Paths.{path_injective}
use Rattle.queue_law.specs.Numbers.{Entry, entry, find}

mapped_none : {A B : Type 0} (f : A → B) (o : Option A) → option_map f o ≡ None → o ≡ None
mapped_none f None e = refl
mapped_none f (Some x) e = absurd (cc)

pub mapped_some : {A B : Type 0} (f : A → B) (o : Option A) (y : B) → option_map f o ≡ Some y → (x : A) × (o ≡ Some x) × (f x ≡ y)
mapped_some f None y e = absurd (cc)
mapped_some f (Some x) y e = (x, refl, cc)

mapped_same : {A B : Type 0} (f g : A → B) (o : Option A) → ((x : A) → o ≡ Some x → g x ≡ f x) → option_map g o ≡ option_map f o
mapped_same f g None same = refl
mapped_same f g (Some x) same = ap Some (same x refl)

-- names and files changed, but not this name nor its file
pub find_same : (names names' : List ℕ → Option ℕ) (files files' : ℕ → File) (x : Name) → names' (path x) ≡ names (path x)
    → ((i : ℕ) → names (path x) ≡ Some i → files' i ≡ files i) → find names' files' x ≡ find names files x
unfolding find
find_same names names' files files' x name file =
    ap (option_map (entry files')) name
    ∙ mapped_same (entry files) (entry files') (names (path x)) (λ i e. ap (λ (g : File). record { number = i; file = g }) (file i e))

module _ (names : List ℕ → Option ℕ) (files : ℕ → File) (x : Name) where
  pub find_some : (i : ℕ) → names (path x) ≡ Some i → find names files x ≡ Some (entry files i)
  unfolding find
  find_some i e = rw e

  pub find_none : names (path x) ≡ None → find names files x ≡ None
  unfolding find
  find_none e = rw e

  pub not_found : find names files x ≡ None → names (path x) ≡ None
  unfolding find
  not_found e = mapped_none (entry files) (names (path x)) e

  pub found : (y : Entry) → find names files x ≡ Some y → (names (path x) ≡ Some y.number) × (y ≡ entry files y.number)
  unfolding find
  found y e =
      let w = mapped_some (entry files) (names (path x)) y e in
      let n = ap (λ (z : Entry). z.number) w.2 in
      (w.1 ∙ ap Some n, sym w.2 ∙ ap (entry files) n)

  -- one file changed, which isn't or is this name's
  pub find_far : (j : ℕ) (f : File) → ((y : Entry) → find names files x ≡ Some y → y.number ≢ j) → find names (put files j f) x ≡ find names files x
  unfolding find
  find_far j f far = mapped_same (entry files) (entry (put files j f)) (names (path x))
      (λ i e. ap (λ (g : File). record { number = i; file = g }) (put_other files j f i (far (entry files i) (rw e))))

  pub find_absent : (j : ℕ) (f : File) → find names files x ≡ None → find names (put files j f) x ≡ None
  find_absent j f e = find_far j f (λ y h. absurd (cc (e, h))) ∙ e

  pub find_near : (y : Entry) (f : File) → find names files x ≡ Some y
      → find names (put files y.number f) x ≡ Some (record { number = y.number; file = f })
  unfolding find
  find_near y f e =
      let w = mapped_some (entry files) (names (path x)) y e in
      let n : names (path x) ≡ Some y.number = w.1 ∙ ap (λ (z : Entry). Some z.number) w.2 in
      ap (option_map (entry (put files y.number f))) n ∙ ap (λ (g : File). Some (record { number = y.number; file = g })) (put_same files y.number f)

  -- this name changed, or another one
  pub find_put : (i : ℕ) → find (put_at names (path x) (Some i)) files x ≡ Some (entry files i)
  unfolding find
  find_put i = ap (option_map (entry files)) (put_at_same names (path x) (Some i))

  pub find_gone : find (put_at names (path x) None) files x ≡ None
  unfolding find
  find_gone = ap (option_map (entry files)) (put_at_same names (path x) None)

  pub find_other : (y : Name) (o : Option ℕ) → y ≢ x → find (put_at names (path x) o) files y ≡ find names files y
  unfolding find
  find_other y o apart = ap (option_map (entry files)) (put_at_other names (path x) o (path y) (λ e. apart (path_injective y x e)))
