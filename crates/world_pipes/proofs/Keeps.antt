-- What is kept of the slots, as the pipes and slots at one place change: how many there are, who runs there, and who is over.
use Rattle.std.proofs.Common.{◌≡◌, ◌⊎◌, ℕ, List, length, set, Bool, true, false, Option, Some, refl, sym, ap, ◌∙◌, subst, ⊎_elim}
use Rattle.std.specs.Prelude.{◌==◌, if◌then◌else◌}
use Rattle.std.specs.List.{slice_get}
use Rattle.std.proofs.lemmas.Bool.Decides.{eqb_tells}
use Rattle.std.proofs.lemmas.List.{length-set}
use Rattle.world_pipes.specs.declared.mouths.Mouths.{Mouths}
use Rattle.world_pipes.specs.Mouths.{tenant_of, ended_of}
use Rattle.world_pipes.specs.Pipework.{Tenant, is_member}
use Rattle.world_pipes.specs.Pipework.Tenant.{Runs}
use Rattle.world_pipes.specs.Wired.{MayRunIn, HaveChildren, AreOver, slots_at, HaveSlots}
use Rattle.world_pipes.specs.Exchanges.{Keep, AreAsBefore}
use Rattle.world_pipes.proofs.Lists.{get_set}

-- who runs in a slot ran there before, and is over exactly if it was
abbrev pub StayIn : Mouths → Mouths → Type 0
StayIn m n = (d : ℕ) (c : List ℕ) → tenant_of n d ≡ Some (Runs c) → (tenant_of m d ≡ Some (Runs c)) × (ended_of n d ≡ ended_of m d)

pub all_stay : (m n : Mouths) → ((d : ℕ) → tenant_of n d ≡ tenant_of m d) → ((d : ℕ) → ended_of n d ≡ ended_of m d) → StayIn m n
all_stay m n tenants ended d c runs = (sym (tenants d) ∙ runs, ended d)

-- but for one slot, in which no actor is then
but_one : (t : Bool) (o v : Option Tenant) (e x : Bool) (c : List ℕ) → (v ≡ Some (Runs c) → ⊥) → (if t then v else o) ≡ Some (Runs c) → (o ≡ Some (Runs c)) × ((if t then e else x) ≡ x)
but_one true o v e x c none is = absurd (none is)
but_one false o v e x c none is = (is, refl)

pub others_stay : (m n : Mouths) (slot : ℕ) (v : Option Tenant) (e : Bool) → ((c : List ℕ) → v ≡ Some (Runs c) → ⊥) → ((d : ℕ) → tenant_of n d ≡ (if d == slot then v else tenant_of m d))
    → ((d : ℕ) → ended_of n d ≡ (if d == slot then e else ended_of m d)) → StayIn m n
others_stay m n slot v e none tenants ended d c runs =
    let was = but_one (d == slot) (tenant_of m d) v e (ended_of m d) c (none c) (sym (tenants d) ∙ runs) in
    (was.0, ended d ∙ was.1)

-- after a change at one place, each has as many slots as before
pub slots_set : (mouths : List Mouths) (i : ℕ) (m n : Mouths) → slice_get mouths i ≡ Some m → length n.slots.items ≡ length m.slots.items → HaveSlots mouths → HaveSlots (set mouths i n)
slots_set mouths i m n is same slots j z at = ⊎_elim
    (λ f. ap (λ (z : Mouths). length z.slots.items) (sym f.1) ∙ same ∙ slots i m is ∙ ap slots_at (sym f.0))
    (λ f. slots j z f.1)
    (get_set mouths i n j z at)

pub children_set : (mouths : List Mouths) (i : ℕ) (m n : Mouths) → slice_get mouths i ≡ Some m → ((d : ℕ) (c : List ℕ) → tenant_of n d ≡ Some (Runs c) → tenant_of m d ≡ Some (Runs c))
    → HaveChildren mouths → HaveChildren (set mouths i n)
children_set mouths i m n is ran children j z d c at runs = ⊎_elim
    (λ f. subst (λ (k : ℕ). MayRunIn k d × (is_member c ≡ false)) (sym f.0) (children i m d c is (ran d c (ap (λ (z : Mouths). tenant_of z d) f.1 ∙ runs))))
    (λ f. children j z d c f.1 runs)
    (get_set mouths i n j z at)

pub over_set : (gone : List ℕ → Bool) (mouths : List Mouths) (i : ℕ) (m n : Mouths) → slice_get mouths i ≡ Some m → StayIn m n → AreOver gone mouths → AreOver gone (set mouths i n)
over_set gone mouths i m n is stay over j z d c at runs = ⊎_elim
    (λ f.
    let was = stay d c (ap (λ (z : Mouths). tenant_of z d) f.1 ∙ runs) in
    ap (λ (z : Mouths). ended_of z d) (sym f.1) ∙ was.1 ∙ over i m d c is was.0)
    (λ f. over j z d c f.1 runs)
    (get_set mouths i n j z at)

pub keep_set : (mouths : List Mouths) (i : ℕ) (m n : Mouths) → slice_get mouths i ≡ Some m → length n.slots.items ≡ length m.slots.items → StayIn m n → Keep mouths (set mouths i n)
keep_set mouths i m n is same stay = record {
  many = length-set mouths i n;
  slots = slots_set mouths i m n is same;
  children = children_set mouths i m n is (λ d c runs. (stay d c runs).0);
  over = λ gone over. over_set gone mouths i m n is stay over;
}

pub keep_same : (mouths later : List Mouths) → later ≡ mouths → Keep mouths later
keep_same mouths later same = subst (Keep mouths) (sym same) (record { many = refl; slots = λ slots. slots; children = λ children. children; over = λ gone over. over })

pub before_same : (mouths later : List Mouths) → later ≡ mouths → AreAsBefore mouths later
before_same mouths later same = subst (AreAsBefore mouths) (sym same) (record { keep = keep_same mouths mouths refl; wired = λ wires w wired. wired })

-- who is over by another test, which tells the same of each actor in a slot
pub over_alike : (gone now : List ℕ → Bool) (mouths : List Mouths) → ((i : ℕ) (m : Mouths) (d : ℕ) (c : List ℕ) → slice_get mouths i ≡ Some m → tenant_of m d ≡ Some (Runs c) → now c ≡ gone c)
    → AreOver gone mouths → AreOver now mouths
over_alike gone now mouths same over i m d c is runs = over i m d c is runs ∙ sym (same i m d c is runs)

-- An actor starts in a slot.
module _ (mouths : List Mouths) (i : ℕ) (m n : Mouths) (slot : ℕ) (a : List ℕ) (is : slice_get mouths i ≡ Some m) (tenants : (d : ℕ) → tenant_of n d ≡ (if d == slot then Some (Runs a) else tenant_of m d)) where
  started_in : (d : ℕ) (c : List ℕ) → tenant_of n d ≡ Some (Runs c) → (P : ℕ → List ℕ → Type 0) → P slot a → (tenant_of m d ≡ Some (Runs c) → (d == slot) ≡ false → P d c) → P d c
  started_in d c runs P new old = ⊎_elim
      (λ f.
      let both : Some (Runs a) ≡ Some (Runs c) = sym (tenants d ∙ ap (λ (t : Bool). if t then Some (Runs a) else tenant_of m d) f.0) ∙ runs in
      let same : a ≡ c = cc in
      subst (P d) same (subst (λ (e : ℕ). P e a) (sym f.1) new))
      (λ f. old (sym (tenants d ∙ ap (λ (t : Bool). if t then Some (Runs a) else tenant_of m d) f.0) ∙ runs) f.0)
      (eqb_tells d slot)

  pub children_started : MayRunIn i slot → is_member a ≡ false → HaveChildren mouths → HaveChildren (set mouths i n)
  children_started may named children j z d c at runs = ⊎_elim
      (λ f. subst (λ (k : ℕ). MayRunIn k d × (is_member c ≡ false)) (sym f.0)
      (started_in d c (ap (λ (z : Mouths). tenant_of z d) f.1 ∙ runs) (λ d c. MayRunIn i d × (is_member c ≡ false)) (may, named) (λ was apart. children i m d c is was)))
      (λ f. children j z d c f.1 runs)
      (get_set mouths i n j z at)

  pub over_started : (gone : List ℕ → Bool) → ((d : ℕ) → ended_of n d ≡ (if d == slot then false else ended_of m d)) → gone a ≡ false → AreOver gone mouths → AreOver gone (set mouths i n)
  over_started gone ended lives over j z d c at runs = ⊎_elim
      (λ f. ap (λ (z : Mouths). ended_of z d) (sym f.1) ∙ started_in d c (ap (λ (z : Mouths). tenant_of z d) f.1 ∙ runs) (λ d c. ended_of n d ≡ gone c)
      (ended slot ∙ first (slot == slot) (eqb_tells slot slot) ∙ sym lives)
      (λ was apart. ended d ∙ ap (λ (t : Bool). if t then false else ended_of m d) apart ∙ over i m d c is was))
      (λ f. over j z d c f.1 runs)
      (get_set mouths i n j z at)
    where
      first : (t : Bool) → ((t ≡ true) × (slot ≡ slot)) ⊎ ((t ≡ false) × (slot ≡ slot → ⊥)) → (if t then false else ended_of m slot) ≡ false
      first true tells = refl
      first false tells = ⊎_elim (λ f. absurd (cc)) (λ f. absurd (f.1 refl)) tells
