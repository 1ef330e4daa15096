use Rattle.std.proofs.Common.{◌≡◌, ℕ, ◌+◌, List, Bool, false, Option, Some, None, ap, arith, rules}
use Rattle.std.specs.Prelude.{if◌then◌else◌, option_map, nat_lt}
use Rattle.std.proofs.lemmas.Bool.{le-ltb}
use Rattle.mail_world.specs.Places.{place_of}
use Rattle.mail_world.specs.Wired.{seat}
use Rattle.mail_world.specs.Inside.{place_by, among_all}
use Rattle.mail_world.proofs.Booked.{none_booked}
use Rattle.mail_world.proofs.Piped.{none_piped}
use Rattle.world_events.proofs.Starting.{none_start}
use Rattle.mail_world.proofs.Worlds.{new_keeps}
use Rattle.mail_world.proofs.world.World.new.Goals as goal

-- nobody has a place among none
none_placed : (places : List ℕ → Option ℕ) → ((a : List ℕ) → places a ≡ None) → (a : List ℕ) → among_all 0 places a ≡ None
none_placed places none a = by_seat (seat a) where
  by_seat : (o : Option ℕ) → place_by 0 o (places a) ≡ None
  by_seat None = ap (option_map (λ i. 0 + i)) (none a)
  by_seat (Some i) = let low : nat_lt i 0 ≡ false = le-ltb i 0 (omega arith) in ap (λ (t : Bool). if t then Some i else None) low

pub invariant_of-result : goal.invariant_of-result
invariant_of-result g c = record {
  world = rw (c.new.ensures.items, c.new-5.ensures) (new_keeps (g.D.CallFs.disk c.args.disk) (among_all 0 (place_of c.new-2.result)) (none_placed (place_of c.new-2.result) c.new-2.ensures));
  room = search rules;
  booked = rw (c.new.ensures.items, c.new-4.ensures, c.new-5.ensures) none_booked;
  piped = rw (c.new.ensures.items, c.new-3.ensures.items, c.new-5.ensures) none_piped;
  started = rw (c.new-5.ensures) (none_start c.new-6.result (place_of c.new-2.result) c.new-6.ensures.order c.new-2.ensures);
}
