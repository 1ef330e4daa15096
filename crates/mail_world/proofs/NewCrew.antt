-- The members of a new generation, one by one.
use Rattle.std.proofs.Common.{◌≡◌, ℕ, zero, suc, ◌+◌, ◌<◌, List, [], ◌∷◌, ◌++◌, length, take, Option, Some, None, refl, sym, ap, ◌∙◌, subst, arith, codes, is_some, true}
use Rattle.std.specs.List.{AllZip}
use Rattle.std.proofs.lemmas.List.{length-append}
use Rattle.actor_names.specs.declared.member.Member.{Member}
use Rattle.actor_names.specs.declared.member.Member.TheVariants as member
use Rattle.actor_names.specs.Members.{name_of, seat_of, member_at}
use Rattle.world_events.specs.declared.event.Program.{Program}
use Rattle.world_events.specs.declared.event.Program.TheVariants.{Cleaner, Sender, LocalSpawner, RemoteSpawner}
use Rattle.world_events.specs.Programs.{generation, run_at}
use Rattle.mail_world.specs.declared.actor.Actor.{Actor as Held}
use Rattle.mail_world.specs.declared.any_machine.AnyMachine.{AnyMachine}
use Rattle.mail_world.specs.ByKind.{Follows}
use Rattle.mail_world.specs.Crew.{AreNew, IsNew, IsSeatedNew, HasBegun}
use Rattle.mail_world.specs.Wired.{seat}

-- one of them, by its name and what it runs
pub record IsNewBy (x : Held) (name : List ℕ) (program : ℕ → Program) : Type 0 where
  pub name_is : x.name ≡ name
  pub ended : x.ended ≡ None
  pub owed : x.owed ≡ None
  pub status : x.status ≡ None
  pub descriptors : x.descriptors.items ≡ []
  pub wire : x.wire ≡ seat name
  pub slot : x.slot ≡ None
  pub entry : x.entry ≡ None
  pub follows : (start : ℕ) → Follows x.machine (program start) []

by_name : (x : Held) (one : Member) → Some (seat_of one) ≡ seat (name_of one) → IsNew x one → IsNewBy x (name_of one) (λ start. run_at start one)
by_name x one seated new = record {
  name_is = new.name_is;
  ended = new.ended;
  owed = new.owed;
  status = new.status;
  descriptors = new.descriptors;
  wire = new.wire ∙ seated;
  slot = new.slot;
  entry = new.entry;
  follows = new.follows;
}

-- the four of them
pub record AreFour (crew : List Held) : Type 0 where
  pub sender : Held
  pub clean : Held
  pub lspawn : Held
  pub rspawn : Held
  pub are : crew ≡ sender ∷ clean ∷ lspawn ∷ rspawn ∷ []
  pub sender_is : IsNewBy sender (codes "sender") Sender
  pub clean_is : IsNewBy clean (codes "clean") Cleaner
  pub lspawn_is : IsNewBy lspawn (codes "lspawn") LocalSpawner
  pub rspawn_is : IsNewBy rspawn (codes "rspawn") RemoteSpawner

pub four_of : (crew : List Held) → AreNew crew → AreFour crew
four_of (sender ∷ clean ∷ lspawn ∷ rspawn ∷ []) new = record {
  sender = sender;
  clean = clean;
  lspawn = lspawn;
  rspawn = rspawn;
  are = refl;
  sender_is = by_name sender member.Sender refl new.0;
  clean_is = by_name clean member.Cleaner refl new.1.0;
  lspawn_is = by_name lspawn member.LocalSpawner refl new.1.1.0;
  rspawn_is = by_name rspawn member.RemoteSpawner refl new.1.1.1.0;
}
four_of [] new = absurd new
four_of (sender ∷ []) new = absurd new.1
four_of (sender ∷ clean ∷ []) new = absurd new.1.1
four_of (sender ∷ clean ∷ lspawn ∷ []) new = absurd new.1.1.1
four_of (sender ∷ clean ∷ lspawn ∷ rspawn ∷ more ∷ others) new = absurd new.1.1.1.1

-- One seat after the other

-- those of the seats below this one
abbrev pub AreNewBelow : ℕ → List Held → Type 0
AreNewBelow seats crew = (length crew ≡ seats) × AllZip IsNew crew (take seats generation)

zip_push : {A B : Type 0} (R : A → B → Type 0) (xs : List A) (ys : List B) (x : A) (y : B) → AllZip R xs ys → R x y → AllZip R (xs ++ x ∷ []) (ys ++ y ∷ [])
zip_push R [] [] x y all one = (one, tt)
zip_push R [] (z ∷ ys) x y all one = absurd all
zip_push R (z ∷ xs) [] x y all one = absurd all
zip_push R (z ∷ xs) (w ∷ ys) x y all one = (all.0, zip_push R xs ys x y all.1 one)

-- the list up to the next seat
next_seat : (at : ℕ) (one : Member) → member_at at ≡ Some one → take (at + 1) generation ≡ take at generation ++ one ∷ []
next_seat zero one is = let same : member.Sender ≡ one = cc in ap (λ (m : Member). m ∷ []) same
next_seat (suc zero) one is = let same : member.Cleaner ≡ one = cc in ap (λ (m : Member). member.Sender ∷ m ∷ []) same
next_seat (suc (suc zero)) one is = let same : member.LocalSpawner ≡ one = cc in ap (λ (m : Member). member.Sender ∷ member.Cleaner ∷ m ∷ []) same
next_seat (suc (suc (suc zero))) one is = let same : member.RemoteSpawner ≡ one = cc in ap (λ (m : Member). member.Sender ∷ member.Cleaner ∷ member.LocalSpawner ∷ m ∷ []) same
next_seat (suc (suc (suc (suc at)))) one is = absurd cc

pub one_more : (at : ℕ) (one : Member) (crew : List Held) (x : Held) → member_at at ≡ Some one → AreNewBelow at crew → IsNew x one → AreNewBelow (at + 1) (crew ++ x ∷ [])
one_more at one crew x is below new =
    let many = length-append crew (x ∷ []) in
    let was = below.0 in
    (omega (arith, many, was), subst (AllZip IsNew (crew ++ x ∷ [])) (sym (next_seat at one is)) (zip_push IsNew crew (take at generation) x one below.1 new))

-- each seat is that of a member
pub seat_filled : (at : ℕ) → at < 4 → is_some (member_at at) ≡ true
seat_filled zero low = refl
seat_filled (suc zero) low = refl
seat_filled (suc (suc zero)) low = refl
seat_filled (suc (suc (suc zero))) low = refl
seat_filled (suc (suc (suc (suc at)))) low = absurd (omega (arith, low))

-- a member with its machine
pub seated_new : (x : Held) (one : Member) (machine : AnyMachine) → IsSeatedNew x one machine → HasBegun machine one → IsNew x one
seated_new x one machine is begun = record {
  name_is = is.name_is;
  ended = is.ended;
  owed = is.owed;
  status = is.status;
  descriptors = is.descriptors;
  wire = is.wire;
  slot = is.slot;
  entry = is.entry;
  follows = λ start. subst (λ (m : AnyMachine). Follows m (run_at start one) []) (sym is.machine_is) (begun start);
}
