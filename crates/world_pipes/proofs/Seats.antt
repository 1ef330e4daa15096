-- Where the members of a generation stand.
use Rattle.std.proofs.Common.{◌≡◌, ℕ, ◌<◌, List, [], Bool, true, false, Option, Some, None, refl, sym, ap, ◌∙◌, subst, ⊎_elim, codes, arith, bytes_eq}
use Rattle.std.specs.Prelude.{if◌then◌else◌, option_map}
use Rattle.actor_names.specs.declared.member.Member.{Member}
use Rattle.actor_names.specs.declared.member.Member.TheVariants as member
use Rattle.actor_names.specs.Members.{name_of, seat_of, member_at}
use Rattle.world_pipes.specs.Pipework.{is_member}
use Rattle.world_pipes.specs.Wired.{seat}
use Rattle.world_pipes.proofs.Members.{whether, other_than, member_cases}
use Rattle.world_pipes.proofs.Members.{other_text}

abbrev member_if : Bool → Bool → Bool → Bool → Option Member
member_if s c l r = if s then Some member.Sender else (if c then Some member.Cleaner else (if l then Some member.LocalSpawner else (if r then Some member.RemoteSpawner else None)))

member_by : (s c l r : Bool) → s ≡ false → c ≡ false → l ≡ false → r ≡ false → member_if s c l r ≡ None
member_by s c l r hs hc hl hr =
    ap (λ (s : Bool). member_if s c l r) hs ∙ ap (λ (c : Bool). member_if false c l r) hc ∙ ap (λ (l : Bool). member_if false false l r) hl
    ∙ ap (λ (r : Bool). member_if false false false r) hr

-- who is no member has no seat
pub seat_none : (a : List ℕ) → is_member a ≡ false → seat a ≡ None
seat_none a other =
    let no : (b : List ℕ) → is_member b ≡ true → bytes_eq a b ≡ false = λ b is. other_text a b (other_than a b other is) in
    ap (option_map seat_of)
    (member_by (bytes_eq a (codes "sender")) (bytes_eq a (codes "clean")) (bytes_eq a (codes "lspawn")) (bytes_eq a (codes "rspawn")) (no (codes "sender") refl) (no (codes "clean") refl) (no (codes "lspawn") refl) (no (codes "rspawn") refl))

-- each member has one of the four
pub record HasSeat (a : List ℕ) : Type 0 where
  pub at : ℕ
  pub is : seat a ≡ Some at
  pub low : at < 4

pub seat_some : (a : List ℕ) → is_member a ≡ true → HasSeat a
seat_some a is = ⊎_elim
    (λ e. record { at = 0; is = ap seat e; low = omega arith })
    (λ f. ⊎_elim
    (λ e. record { at = 1; is = ap seat e; low = omega arith })
    (λ g. ⊎_elim
    (λ e. record { at = 2; is = ap seat e; low = omega arith })
    (λ e. record { at = 3; is = ap seat e; low = omega arith })
    g) f)
    (member_cases a is)

pub seat_member : (a : List ℕ) (i : ℕ) → seat a ≡ Some i → is_member a ≡ true
seat_member a i at = ⊎_elim
    (λ is. is)
    (λ other. let both : ◌≡◌ {A = Option ℕ} None (Some i) = sym (seat_none a other) ∙ at in absurd (cc))
    (whether (is_member a))

pub no_seat : (a : List ℕ) → seat a ≡ None → is_member a ≡ false
no_seat a none = ⊎_elim
    (λ is. let s = seat_some a is in let both : ◌≡◌ {A = Option ℕ} None (Some s.at) = sym none ∙ s.is in absurd (cc))
    (λ other. other)
    (whether (is_member a))

pub seat_low : (a : List ℕ) (i : ℕ) → seat a ≡ Some i → i < 4
seat_low a i at =
    let s = seat_some a (seat_member a i at) in
    let both : ◌≡◌ {A = Option ℕ} (Some s.at) (Some i) = sym s.is ∙ at in
    let same : s.at ≡ i = cc in
    let low = s.low in
    omega (arith, same, low)

same_some : (i j : ℕ) → ◌≡◌ {A = Option ℕ} (Some i) (Some j) → i ≡ j
same_some i j e = cc

-- what holds of each of the four with its seat holds of who has a seat
pub by_seat : (P : List ℕ → ℕ → Type 0) → P (codes "sender") 0 → P (codes "clean") 1 → P (codes "lspawn") 2 → P (codes "rspawn") 3
    → (a : List ℕ) (i : ℕ) → seat a ≡ Some i → P a i
by_seat P sender clean lspawn rspawn a i at =
    let named : (b : List ℕ) (j : ℕ) → seat b ≡ Some j → P b j → a ≡ b → P a i =
    λ b j is holds e. subst (λ (a : List ℕ). P a i) (sym e) (subst (P b) (same_some j i (sym is ∙ sym (ap seat e) ∙ at)) holds) in
    ⊎_elim
    (named (codes "sender") 0 refl sender)
    (⊎_elim (named (codes "clean") 1 refl clean) (⊎_elim (named (codes "lspawn") 2 refl lspawn) (named (codes "rspawn") 3 refl rspawn)))
    (member_cases a (seat_member a i at))

-- who has the seat of a member has its name
abbrev name_in : Option Member → List ℕ
name_in (Some member) = name_of member
name_in None = []

has_name : (a : List ℕ) (i : ℕ) → seat a ≡ Some i → a ≡ name_in (member_at i)
has_name a i at = by_seat (λ (a : List ℕ) (i : ℕ). a ≡ name_in (member_at i)) refl refl refl refl a i at

pub seated_name : (seated : Member) (a : List ℕ) → seat a ≡ Some (seat_of seated) → a ≡ name_of seated
seated_name member.Sender a at = has_name a (seat_of member.Sender) at
seated_name member.Cleaner a at = has_name a (seat_of member.Cleaner) at
seated_name member.LocalSpawner a at = has_name a (seat_of member.LocalSpawner) at
seated_name member.RemoteSpawner a at = has_name a (seat_of member.RemoteSpawner) at

-- each seat is one of the first four
pub seat_within : (seated : Member) → seat_of seated < 4
seat_within member.Sender = omega arith
seat_within member.Cleaner = omega arith
seat_within member.LocalSpawner = omega arith
seat_within member.RemoteSpawner = omega arith

-- two with one seat are one
pub same_seat : (a b : List ℕ) (i : ℕ) → seat a ≡ Some i → seat b ≡ Some i → b ≡ a
same_seat a b i at other = has_name b i other ∙ sym (has_name a i at)
