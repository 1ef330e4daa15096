-- A delivery starts: there are pipes at one place more.
use Rattle.std.proofs.Common.{◌≡◌, ◌≢◌, ◌⊎◌, ℕ, suc, ◌<◌, ◌≤◌, List, [], ◌∷◌, ◌++◌, length, Bool, false, Option, Some, None, refl, sym, ap, ◌∙◌, subst, inl, inr, ⊎_elim, arith, codes, length-append}
use Rattle.std.specs.Prelude.{if◌then◌else◌}
use Rattle.std.specs.List.{slice_get}
use Rattle.std.proofs.lemmas.Bool.{le-ltb}
use Rattle.std.proofs.lemmas.Bool.Decides.{leb_tells}
use Rattle.call_fs.specs.Maps.{put_at}
use Rattle.call_fs.specs.declared.program.Port.{Port}
use Rattle.call_fs.proofs.Maps.{put_at_same, put_at_other}
use Rattle.world_pipes.specs.declared.mouths.Mouths.{Mouths}
use Rattle.world_pipes.specs.Mouths.{tenant_of}
use Rattle.world_pipes.specs.Pipework.{Pipework, Tenant, fresh, is_member}
use Rattle.world_pipes.specs.Pipework.Tenant.{Runs}
use Rattle.world_pipes.specs.Seating.{IsFreshOne}
use Rattle.world_pipes.specs.Wired.{pipe_in, tenant_in, kept_at, slot_in, IsOwnPort, AreWired, HasOwnPlace, HaveChildren, AreOver, HaveSlots, slots_at}
use Rattle.world_pipes.proofs.Lists.{get_push, get_still, get_last, some_within}
use Rattle.world_pipes.proofs.Members.{whether, other_than, text_cases}
use Rattle.world_pipes.proofs.Seats.{seat_low}

module _ (wires : List ℕ → Option ℕ) (mouths : List Mouths) (w : Pipework) (c : List ℕ) (k : Mouths) (d : ℕ) (wired : AreWired wires mouths w)
    (unwired : wires c ≡ None) (named : is_member c ≡ false) (four : 4 ≤ length mouths) (slot : w.slots c ≡ Some (slot_in (codes "lspawn") d))
    (empty : (q : Port) → IsOwnPort (length mouths) q → w.pipes c q ≡ fresh) (new : IsFreshOne k) where
  abbrev pub grown : List ℕ → Option ℕ
  grown = put_at wires c (Some (length mouths))

  abbrev pub later : List Mouths
  later = mouths ++ k ∷ []

  -- that place is one of those before
  low : (b : List ℕ) (j : ℕ) → wires b ≡ Some j → j < length mouths
  low b j of = ⊎_elim
      (λ member. let seated = seat_low b j (sym (wired.seats b member) ∙ of) in omega (arith, seated, four))
      (λ other. wired.within b j of other)
      (whether (is_member b))

  same_there : (j : ℕ) → j < length mouths → slice_get later j ≡ slice_get mouths j
  same_there j lt = let m = some_within mouths j lt in get_still mouths k j m.0 m.1 ∙ sym m.1

  -- its own place is the last
  last : (j : ℕ) → grown c ≡ Some j → j ≡ length mouths
  last j of = let both : ◌≡◌ {A = Option ℕ} (Some (length mouths)) (Some j) = sym (put_at_same wires c (Some (length mouths))) ∙ of in cc

  old : (b : List ℕ) → b ≢ c → grown b ≡ wires b
  old b other = put_at_other wires c (Some (length mouths)) b other

  -- who has a place is no stranger to it
  wired_other : (b : List ℕ) (j : ℕ) → wires b ≡ Some j → b ≢ c
  wired_other b j of same = let both : ◌≡◌ {A = Option ℕ} None (Some j) = sym unwired ∙ ap wires (sym same) ∙ of in absurd (cc)

  longer : length later ≡ suc (length mouths)
  longer = let grows = length-append mouths (k ∷ []) in omega (arith, grows)

  grown_pipes : (b : List ℕ) (j : ℕ) (q : Port) → grown b ≡ Some j → IsOwnPort j q → w.pipes b q ≡ pipe_in (slice_get later j) q
  grown_pipes b j q of own = ⊎_elim
      (λ f.
      let at = last j (sym (ap grown f.0) ∙ of) in
      ap (λ (b : List ℕ). w.pipes b q) f.0 ∙ empty q (subst (λ (j : ℕ). IsOwnPort j q) at own) ∙ sym (new.pipes q)
      ∙ sym (ap (λ (o : Option Mouths). pipe_in o q) (ap (slice_get later) at ∙ get_last mouths k)))
      (λ f.
      let was = sym (old b f.0) ∙ of in
      wired.pipes b j q was own ∙ sym (ap (λ (o : Option Mouths). pipe_in o q) (same_there j (low b j was))))
      (text_cases b c)

  grown_programs : (b : List ℕ) (e : ℕ) → w.programs b e ≡ tenant_in (kept_at (grown b) later) e
  grown_programs b e = ⊎_elim
      (λ f.
      ap (λ (b : List ℕ). w.programs b e) f.0 ∙ wired.programs c e ∙ ap (λ (o : Option ℕ). tenant_in (kept_at o mouths) e) unwired ∙ sym (new.tenants e)
      ∙ sym (ap (λ (o : Option ℕ). tenant_in (kept_at o later) e) (ap grown f.0 ∙ put_at_same wires c (Some (length mouths))) ∙ ap (λ (o : Option Mouths). tenant_in o e) (get_last mouths k)))
      (λ f. wired.programs b e ∙ by_place (wires b) refl ∙ sym (ap (λ (o : Option ℕ). tenant_in (kept_at o later) e) (old b f.0)))
      (text_cases b c)
    where
      by_place : (o : Option ℕ) → wires b ≡ o → tenant_in (kept_at o mouths) e ≡ tenant_in (kept_at o later) e
      by_place None of = refl
      by_place (Some j) of = sym (ap (λ (o : Option Mouths). tenant_in o e) (same_there j (low b j of)))

  grown_others : (b : List ℕ) (j : ℕ) → grown b ≡ Some j → is_member b ≡ false → HasOwnPlace w b j
  grown_others b j of other = ⊎_elim
      (λ f. record { high = let at = last j (sym (ap grown f.0) ∙ of) in omega (arith, at, four); number = d; slot = ap w.slots f.0 ∙ slot })
      (λ f. wired.others b j (sym (old b f.0) ∙ of) other)
      (text_cases b c)

  -- two at one place are one
  grown_apart : (a b : List ℕ) (j : ℕ) → grown a ≡ Some j → grown b ≡ Some j → a ≡ b
  grown_apart a b j of there = ⊎_elim
      (λ f. ⊎_elim
      (λ g. f.0 ∙ sym g.0)
      (λ g.
      let at = last j (sym (ap grown f.0) ∙ of) in
      let lt = low b j (sym (old b g.0) ∙ there) in absurd (omega (arith, at, lt)))
      (text_cases b c))
      (λ f. ⊎_elim
      (λ g.
      let at = last j (sym (ap grown g.0) ∙ there) in
      let lt = low a j (sym (old a f.0) ∙ of) in absurd (omega (arith, at, lt)))
      (λ g. wired.apart a b j (sym (old a f.0) ∙ of) (sym (old b g.0) ∙ there))
      (text_cases b c))
      (text_cases a c)

  grown_owned : (j : ℕ) → j < length later → (a : List ℕ) × (grown a ≡ Some j)
  grown_owned j lt = by_low (whether_below j (length mouths)) where
    whether_below : (i n : ℕ) → (i < n) ⊎ (n ≤ i)
    whether_below i n = ⊎_elim (λ f. inr f.1) (λ f. inl f.1) (leb_tells n i)

    by_low : (j < length mouths) ⊎ (length mouths ≤ j) → (a : List ℕ) × (grown a ≡ Some j)
    by_low either = ⊎_elim
        (λ below. let own = wired.owned j below in (own.0, old own.0 (wired_other own.0 j own.1) ∙ own.1))
        (λ above. let at : length mouths ≡ j = omega (arith, above, lt, longer) in (c, put_at_same wires c (Some (length mouths)) ∙ ap Some at))
        either

  pub wired_grows : AreWired grown later w
  wired_grows = record {
    pipes = grown_pipes;
    programs = grown_programs;
    seats = λ b member. old b (λ same. other_than c b named member (sym same)) ∙ wired.seats b member;
    members = wired.members;
    others = grown_others;
    within = λ b j of other. ⊎_elim
        (λ f. let at = last j (sym (ap grown f.0) ∙ of) in omega (arith, at, longer))
        (λ f. let lt = low b j (sym (old b f.0) ∙ of) in omega (arith, lt, longer))
        (text_cases b c);
    apart = grown_apart;
    owned = grown_owned;
    children = wired.children;
  }

  pub slots_grow : HaveSlots mouths → HaveSlots later
  slots_grow slots j m at = ⊎_elim
      (λ f. ap (λ (m : Mouths). length m.slots.items) (sym f.1) ∙ new.slots ∙ sym (ap slots_at f.0 ∙ ap (λ (t : Bool). if t then 256 else 1) (le-ltb (length mouths) 4 four)))
      (λ f. slots j m f)
      (get_push mouths k j m at)

  no_tenant : (m : Mouths) (e : ℕ) (b : List ℕ) → k ≡ m → tenant_of m e ≡ Some (Runs b) → ⊥
  no_tenant m e b same runs = let both : ◌≡◌ {A = Option Tenant} None (Some (Runs b)) = sym (new.tenants e) ∙ ap (λ (m : Mouths). tenant_of m e) same ∙ runs in cc

  pub children_grow : HaveChildren mouths → HaveChildren later
  children_grow children j m e b at runs = ⊎_elim
      (λ f. absurd (no_tenant m e b f.1 runs))
      (λ f. children j m e b f runs)
      (get_push mouths k j m at)

  pub over_grow : (gone : List ℕ → Bool) → AreOver gone mouths → AreOver gone later
  over_grow gone over j m e b at runs = ⊎_elim
      (λ f. absurd (no_tenant m e b f.1 runs))
      (λ f. over j m e b f runs)
      (get_push mouths k j m at)
