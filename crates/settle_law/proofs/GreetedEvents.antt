-- Each event of a history in which nothing fails keeps what a sender and a spawner were told first.
use Rattle.std.proofs.Common.{◌≡◌, ℕ, List, [], true, false, Option, Some, None, refl, ap, ◌∙◌, codes}
use Rattle.std.specs.List.{list_all}
use Rattle.std.proofs.lemmas.Bool.{false≢true}
use Rattle.std.specs.Prelude.{is_some}
use Rattle.call_fs.specs.Disk.{Disk}
use Rattle.call_fs.specs.declared.past.Own.{Own}
use Rattle.send_core.specs.Past.{account}
use Rattle.send_known.specs.declared.channel.Channel.{Channel}
use Rattle.send_known.specs.declared.channel.Channel.TheVariants.{Local, Remote}
use Rattle.spawner_parts.specs.Table.{greeting}
use Rattle.world_events.specs.declared.event.Program.TheVariants.{LocalSpawner, RemoteSpawner}
use Rattle.mail_world.specs.History.{Event, Legal, State, after}
use Rattle.world_law.specs.Spawned.{spawner_name}
use Rattle.settle_law.specs.Well.{goes_well}
use Rattle.settle_law.proofs.Greeted.{Greeted, sent_keeps, spawned_keeps}
use Rattle.settle_law.proofs.Greeting.{StepsFrom, is_greeting, steps_from}
use Rattle.settle_law.proofs.PipeEvents.{IsKept, IsServed, kept_always, sends_past, spawns_past, told_of}

abbrev pub GreetedIn : Channel → State → Type 0
GreetedIn c s = Greeted c (sends_past (s.actors (codes "sender"))) (spawns_past c (s.actors (spawner_name c))) (told_of c s)

abbrev Both : Channel → Option (List Own) → Option (List Own) → (told asks : List ℕ) → Type 0
Both c sends spawns told asks = Greeted c sends spawns told

none_so : (c : Channel) (told : List ℕ) → Greeted c None None told
none_so c told = record {
  both = λ past is. absurd (cc);
  heard = λ past is h. absurd (cc);
  said = λ past mine is none there g. absurd (cc);
  unsaid = λ past mine is none there g. absurd (cc);
}

begun_so : (c : Channel) → Greeted c (Some []) (Some []) []
begun_so c = record {
  both = λ past is. ([], refl);
  heard = λ past is h. absurd (none past (first past is) h);
  said = λ past mine is none there g. absurd (greets mine (first mine there) g);
  unsaid = λ past mine is none there g. refl;
}
  where
    first : (p : List Own) → ◌≡◌ {A = Option (List Own)} (Some []) (Some p) → [] ≡ p
    first p e = cc

    none : (p : List Own) → [] ≡ p → is_some (account c p).heard ≡ true → ⊥
    none p same h = false≢true (ap (λ (q : List Own). is_some (account c q).heard) same ∙ h)

    greets : (p : List Own) → [] ≡ p → is_greeting c p ≡ false → ⊥
    greets p same g = by c (ap (is_greeting c) same ∙ g)
      where
        by : (k : Channel) → is_greeting k [] ≡ false → ⊥
        by Local e = absurd (cc)
        by Remote e = absurd (cc)

steps : (c : Channel) (mine : List Own) (asks : List ℕ) (own : Own) → IsServed c mine asks own → StepsFrom c mine own
steps Local mine asks own it = steps_from Local (LocalSpawner 0) tt mine own it.run.1.0
steps Remote mine asks own it = steps_from Remote (RemoteSpawner 0) tt mine own it.run.1.0

kept : IsKept Both
kept = record {
  none = λ c told asks. none_so c told;
  begins = begun_so;
  sends = λ c past spawns told asks own wrote it G. sent_keeps c past spawns told own G it.takes;
  serves = λ c sends mine told asks own wrote it G. spawned_keeps c sends mine told own wrote G (steps c mine asks own it) (it.gives greeting);
}

pub greeted_always : (d : Disk) (h : List Event) → Legal d h → list_all goes_well h ≡ true → (c : Channel) → GreetedIn c (after d h)
greeted_always d h legal well c = kept_always Both kept d h legal well c
