-- Bytes that are taken of a source, one after the other.
use Rattle.std.proofs.Common.{◌≡◌, ◌⊎◌, inl, inr, ℕ, ◌≤◌, List, [], ◌++◌, Option, Some, None, refl, sym, ap, ◌∙◌, arith, append_assoc}
use Rattle.mail_bytes.specs.Told.{Meets, OnTold, Rose}
use Rattle.outside.specs.declared.source.Took.{Took}
use Rattle.outside.specs.declared.source.Took.TheVariants.{Got, End, Failed}
use Rattle.outside.specs.Streams.{TakesBytes}
use Rattle.program_runner.proofs.Deeds.{meets_then}
use Rattle.queue_command.specs.Inputs.{Stream}
use Rattle.queue_command.proofs.Sources.{same, weaker}
use Rattle.qmqp_server.specs.declared.reader.PackageFault.{PackageFault}
use Rattle.qmqp_server.specs.declared.reader.PackageFault.TheVariants.{Cut, Malformed}
use Rattle.qmqp_server.specs.Sources.{Takes, IsDry}
use Rattle.qmqp_server.specs.Faults.{IsDryIfCut}

abbrev pub stream : Option (List ℕ) → ℕ → Option (List ℕ) → ℕ → Stream
stream a f b g = record { old = a; new = b; faults_old = f; faults_new = g }

pub takes_none : (left : Option (List ℕ)) (faults : ℕ) → Takes [] (stream left faults left faults)
takes_none left faults = record { told = same (λ before after. before ≡ [] ++ after) left (λ x. refl); counts = omega arith }

pub takes_then : (a b c : Option (List ℕ)) (f g h : ℕ) (first second : List ℕ) → Takes first (stream a f b g) → Takes second (stream b g c h)
    → Takes (first ++ second) (stream a f c h)
takes_then a b c f g h first second one two = record {
  told = meets_then (λ x y. x ≡ first ++ y) (λ y z. y ≡ second ++ z) (λ x z. x ≡ (first ++ second) ++ z)
      (λ x y z e d. e ∙ ap (λ t. first ++ t) d ∙ sym (append_assoc first second z)) a b c one.told two.told;
  counts = let c1 = one.counts in let c2 = two.counts in omega arith;
}

-- a source that failed later failed since then
rose_earlier : (a b c : ℕ) → a ≤ b → Rose b c → Rose a c
rose_earlier a b c h r = omega (arith, h, r)

pub dry_earlier : (a b c : Option (List ℕ)) (f g h : ℕ) → f ≤ g → IsDry (stream b g c h) → IsDry (stream a f c h)
dry_earlier a b c f g h le (inl none) = inl none
dry_earlier a b c f g h le (inr rose) = inr (rose_earlier f g h le rose)

-- what an earlier stream gave no more of
pub dry_if_cut : (fault : PackageFault) (a b c : Option (List ℕ)) (f g h : ℕ) → f ≤ g → IsDryIfCut fault (stream b g c h) → IsDryIfCut fault (stream a f c h)
dry_if_cut Cut a b c f g h le dry = dry_earlier a b c f g h le dry
dry_if_cut Malformed a b c f g h le dry = tt

-- what a source that has ended has left
over_left : (a b : Option (List ℕ)) → Meets a b (λ x y. (x ≡ []) × (y ≡ [])) → OnTold b (λ left. left ≡ [])
over_left None None h = tt
over_left None (Some y) h = absurd h
over_left (Some x) None h = absurd h
over_left (Some x) (Some y) h = h.1

-- nothing came of a taking
pub cut_by : (took : Took) (a b : Option (List ℕ)) (f g : ℕ) (into : List ℕ) → (took ≡ End) ⊎ (took ≡ Failed) → f ≤ g → Meets a b (λ x y. TakesBytes took into x y) → (took ≡ Failed → Rose f g)
    → Takes [] (stream a f b g) × IsDry (stream a f b g)
cut_by (Got k) a b f g into (inl is) later told rose = absurd (cc)
cut_by (Got k) a b f g into (inr is) later told rose = absurd (cc)
cut_by End a b f g into is later told rose = (record { told = weaker a b (λ x y t. t.0 ∙ sym t.1) told; counts = later }, inl (over_left a b told))
cut_by Failed a b f g into is later told rose = (record { told = weaker a b (λ x y t. sym t) told; counts = later }, inr (rose refl))
