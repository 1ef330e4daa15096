-- The delivery of a request, in its parts.
use Rattle.std.proofs.Common.{◌≡◌, ℕ, ◌+◌, ◌-◌, List, [], ◌∷◌, ◌++◌, length, take, drop, Bool, false, not, Option, Some, None, nat_le, refl, sym, ap, ◌∙◌, subst, arith}
use Rattle.std.specs.Prelude.{MatchOption, is_none, slice_get, unwrap_or}
use Rattle.std.proofs.lemmas.Bool.{true≢false}
use Rattle.std.proofs.lemmas.List.{length-append}
use Rattle.std.proofs.Math.Seq.{take-append_seam}
use Rattle.call_fs.specs.declared.past.ChildData.{ChildData}
use Rattle.call_fs.specs.declared.past.ChildData.TheVariants as child
use Rattle.call_fs.specs.declared.past.Own.{Own}
use Rattle.spawn_protocol.specs.declared.request.Request.{Request}
use Rattle.spawner_parts.specs.Asked.{IsSplit, domain_of, host_of, is_bad, names_message, runs_in}
use Rattle.spawner_parts.specs.Causes.{programs}
use Rattle.spawner_parts.specs.Counts.{IsStart}
use Rattle.spawner_parts.proofs.Hosts.{host_splits}
use Rattle.spawner_parts.proofs.Tallies.{or_false}
use Rattle.local_spawn.specs.declared.assign.Assignment.{Assignment}
use Rattle.local_spawn.specs.declared.delivery.Delivery.{Delivery}
use Rattle.local_spawn.specs.declared.finding.Found.{Found}
use Rattle.local_spawn.specs.Deliveries.{default_line, delivery_at, delivery_by, delivery_for, delivery_of, local_of}
use Rattle.local_spawn.specs.Finding.{IsForNobody, IsFound}
use Rattle.local_spawn.specs.Starts.{IsDeliveryOfOne}
use Rattle.local_spawn.specs.Users.{found_in}
use Rattle.local_spawn.proofs.FoundLemmas.{found_is}
use Rattle.local_spawn.proofs.Tells.{HasThose}

-- the local part of an address, and its domain
local_is : (address local host : List ℕ) → host_of address ≡ Some host → IsSplit address local host → local_of address ≡ local
local_is address local host e s =
    ap (λ (o : Option (List ℕ)). take (length address - (length (unwrap_or o []) + 1)) address) e
    ∙ ap (λ a. take (length a - (length host + 1)) a) s.split
    ∙ ap (λ n. take n (local ++ 64 ∷ host)) short
    ∙ take-append_seam local (64 ∷ host)
  where
    short : length (local ++ 64 ∷ host) - (length host + 1) ≡ length local
    short = omega (arith, length-append local (64 ∷ host))

some_host : (address : List ℕ) → is_none (host_of address) ≡ false → (host : List ℕ) × (host_of address ≡ Some host)
some_host address e = by (host_of address) refl where
  by : (o : Option (List ℕ)) → host_of address ≡ o → (host : List ℕ) × (host_of address ≡ Some host)
  by None is = absurd (true≢false (sym (ap is_none is) ∙ e))
  by (Some host) is = (host, is)

has_host : (running : List Bool) (r : Request) → is_bad running r ≡ false → is_none (host_of r.recipient) ≡ false
has_host running r good =
    let a = (or_false (nat_le 120 r.slot) _ good).1 in
    let b = (or_false (runs_in running r.slot) _ a).1 in
    (or_false (not (names_message r.mess)) (is_none (host_of r.recipient)) b).1

-- what a request's delivery is made of
pub record IsMade (users : List Assignment) (r : Request) (delivery : Delivery) : Type 0 where
  pub found : Found
  pub is : found_in users (local_of r.recipient) ≡ Some found
  pub user : Assignment
  pub here : slice_get users found.line ≡ Some user
  pub made : delivery ≡ delivery_by user found.rest r

none_some : (d : Delivery) → ◌≡◌ {A = Option Delivery} None (Some d) → ⊥
none_some d e = cc

same_some : (d e : Delivery) → ◌≡◌ {A = Option Delivery} (Some d) (Some e) → d ≡ e
same_some d e same = cc

made_at : (users : List Assignment) (r : Request) (delivery : Delivery) (found : Found) → found_in users (local_of r.recipient) ≡ Some found → (o : Option Assignment) → slice_get users found.line ≡ o
    → delivery_at found.rest r o ≡ Some delivery → IsMade users r delivery
made_at users r delivery found is None here e = absurd (none_some delivery e)
made_at users r delivery found is (Some user) here e =
    record { found = found; is = is; user = user; here = here; made = sym (same_some (delivery_by user found.rest r) delivery e) }

made_by : (users : List Assignment) (r : Request) (delivery : Delivery) (o : Option Found) → found_in users (local_of r.recipient) ≡ o → delivery_of users r o ≡ Some delivery → IsMade users r delivery
made_by users r delivery None is e = absurd (none_some delivery e)
made_by users r delivery (Some found) is e = made_at users r delivery found is (slice_get users found.line) refl e

-- the words of a delivery
abbrev local_words : Assignment → (local domain sender : List ℕ) → ℕ → ℕ → ChildData
local_words user local domain sender matched slot = child.Local slot (record {
  user = user.user;
  home = user.home;
  local = local;
  dash = user.dash;
  ext = user.ext ++ drop matched local;
  domain = domain;
  sender = sender;
  line = default_line;
}) user.uid

domain_is : (address host : List ℕ) → host_of address ≡ Some host → domain_of address ≡ host
domain_is address host e = ap (λ (o : Option (List ℕ)). unwrap_or o []) e

pub delivery_is : (past : List Own) (requests : List Request) (users : Option (List Assignment)) (r : Request) (delivery : Delivery) (program : ChildData) → HasThose past users
    → IsStart past requests r program → delivery_for users r ≡ Some delivery → child.Local r.slot delivery.words delivery.uid ≡ program → IsDeliveryOfOne past requests program
delivery_is past requests None r delivery program those is due same = absurd (none_some delivery due)
delivery_is past requests (Some users) r delivery program those is due same =
    let m = made_by users r delivery (found_in users (local_of r.recipient)) refl due in
    let h = some_host r.recipient (has_host (programs past) r is.good) in
    let s = host_splits r.recipient h.0 h.1 in
    let local : local_of r.recipient ≡ s.0 = local_is r.recipient s.0 h.0 h.1 s.1 in
    let domain : domain_of r.recipient ≡ h.0 = domain_is r.recipient h.0 h.1 in
    let belongs : IsFound users (local_of r.recipient) m.found
    = subst (λ o. MatchOption o (IsForNobody users (local_of r.recipient)) (IsFound users (local_of r.recipient))) m.is (found_is users (local_of r.recipient)) in
    record {
      request = r;
      is = is;
      users = users;
      are = those;
      local = s.0;
      domain = h.0;
      address = s.1.split;
      last = s.1.last;
      found = m.found;
      belongs = subst (λ t. IsFound users t m.found) local belongs;
      user = m.user;
      here = m.here;
      of = sym same
          ∙ ap (λ (d : Delivery). child.Local r.slot d.words d.uid) m.made
          ∙ ap (λ t. local_words m.user t (domain_of r.recipient) r.sender m.found.rest r.slot) local
          ∙ ap (λ t. local_words m.user s.0 t r.sender m.found.rest r.slot) domain;
    }
