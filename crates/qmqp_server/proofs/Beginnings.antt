-- The first two heads of a package.
use Rattle.std.proofs.Common.{◌≡◌, ◌⊎◌, inl, inr, ℕ, ◌+◌, ◌-◌, ◌≤◌, ◌<◌, List, [], ◌++◌, length, false, Option, refl, sym, ap, ◌∙◌, subst, arith}
use Rattle.mail_bytes.specs.Netstring.{head}
use Rattle.queue_command.specs.Inputs.{Stream}
use Rattle.queue_command.proofs.Heads.{part_short}
use Rattle.qmqp_server.specs.declared.heads.Head.{Head}
use Rattle.qmqp_server.specs.declared.heads.Head.TheVariants as was
use Rattle.qmqp_server.specs.declared.reader.Place.TheVariants as place
use Rattle.qmqp_server.specs.declared.reader.PackageFault.{PackageFault}
use Rattle.qmqp_server.specs.declared.reader.PackageFault.TheVariants.{Cut, Malformed}
use Rattle.qmqp_server.specs.declared.reader.Inner.TheVariants as inner
use Rattle.qmqp_server.specs.declared.reader.Beginning.{Beginning}
use Rattle.qmqp_server.specs.declared.reader.Beginning.TheVariants as begins
use Rattle.qmqp_server.specs.Package.{longest}
use Rattle.qmqp_server.specs.Faults.IsCut.{InFirstHead}
use Rattle.qmqp_server.specs.Faults.IsMalformed.{BadHead}
use Rattle.qmqp_server.specs.inside.Taken.{IsHeadTaken}
use Rattle.qmqp_server.specs.inside.Places.{IsInnerTaken, Begins, BeginsBy, BeginsContent}
use Rattle.qmqp_server.proofs.Taken.{dry_if_cut, stream, takes_then}
use Rattle.qmqp_server.proofs.Values.{after_length, inner_broken}

-- Within a content

module _ (left : ℕ) (s : Stream) where
  pub inner_found : (value used : ℕ) → IsHeadTaken (was.Length value used) left s → value < left - used → IsInnerTaken (inner.Netstring value (left - used - value - 1)) left s
  inner_found value used h fits = record {
    bytes = h.bytes;
    takes = h.takes;
    inner_of = (h.head_of.1, (let size = h.head_of.2 in let few = h.head_of.3 in omega arith));
  }

  pub inner_past : (value used : ℕ) → IsHeadTaken (was.Length value used) left s → left - used ≤ value → IsInnerTaken (inner.Broken Malformed) left s
  inner_past value used h past = record {
    bytes = h.bytes;
    takes = h.takes;
    inner_of = (inr (inr (value, h.head_of.1, h.head_of.3, (let size = h.head_of.2 in let few = h.head_of.3 in omega arith))), tt);
  }

  pub inner_bad : IsHeadTaken was.Bad left s → IsInnerTaken (inner.Broken Malformed) left s
  inner_bad h = record { bytes = h.bytes; takes = h.takes; inner_of = (inl h.head_of, tt) }

  pub inner_all : IsHeadTaken was.Past left s → IsInnerTaken (inner.Broken Malformed) left s
  inner_all h = record { bytes = h.bytes; takes = h.takes; inner_of = (inr (inl h.head_of), tt) }

  pub inner_cut : IsHeadTaken was.Cut left s → IsInnerTaken (inner.Broken Cut) left s
  inner_cut h = record { bytes = h.bytes; takes = h.takes; inner_of = ((h.head_of.0, h.head_of.1), h.head_of.2) }

  -- neither a head nor a part of one that may go on
  pub inner_none : (h : Head) → (h ≡ was.Bad) ⊎ (h ≡ was.Past) → IsHeadTaken h left s → IsInnerTaken (inner.Broken Malformed) left s
  inner_none h (inl is) took = inner_bad (subst (λ k. IsHeadTaken k left s) is took)
  inner_none h (inr is) took = inner_all (subst (λ k. IsHeadTaken k left s) is took)

-- After the length

pub message_begins : (promised value rest : ℕ) (s : Stream) → promised ≤ longest → IsInnerTaken (inner.Netstring value rest) promised s
    → BeginsContent promised (begins.Heads (record { place = place.Message value; rest = rest; letter = 70; has_nul = false })) s
message_begins promised value rest s short i =
    let is = i.inner_of.0 in
    let count : promised ≡ length (head value) + (value + (1 + rest)) = i.inner_of.1 ∙ ap (λ t. length t + (value + (1 + rest))) is in
    record {
      more = i.bytes;
      takes = i.takes;
      begins = (record { left = value; place = refl; letter = refl; nul = refl; short = omega arith }, ap (λ t. head promised ++ t) is ∙ ap (λ k. head k ++ head value) count);
    }

pub message_broken : (promised : ℕ) (fault : PackageFault) (s : Stream) → promised ≤ longest → IsInnerTaken (inner.Broken fault) promised s → BeginsContent promised (begins.Broken fault) s
message_broken promised fault s short i = record {
  more = i.bytes;
  takes = i.takes;
  begins = (inner_broken fault promised [] (head promised) i.bytes (λ e. omega arith) i.inner_of.0 (after_length promised short), i.inner_of.1);
}

-- Both

begins_earlier : (result : Beginning) (a b c : Option (List ℕ)) (f g h : ℕ) (read : List ℕ) → f ≤ g → BeginsBy result (stream b g c h) read → BeginsBy result (stream a f c h) read
begins_earlier (begins.Heads reader) a b c f g h read le by = by
begins_earlier begins.TooLong a b c f g h read le by = by
begins_earlier (begins.Broken fault) a b c f g h read le (broken, dry) = (broken, dry_if_cut fault a b c f g h le dry)

pub begins_both : (result : Beginning) (a b c : Option (List ℕ)) (f g h value used most : ℕ) → IsHeadTaken (was.Length value used) most (stream a f b g) → BeginsContent value result (stream b g c h) → Begins result (stream a f c h)
begins_both result a b c f g h value used most one two = record {
  read = one.bytes ++ two.more;
  takes = takes_then a b c f g h one.bytes two.more one.takes two.takes;
  begins = subst (λ t. BeginsBy result (stream a f c h) (t ++ two.more)) (sym one.head_of.1) (begins_earlier result a b c f g h (head value ++ two.more) one.takes.counts two.begins);
}

module _ (most : ℕ) (s : Stream) where
  pub begins_long : (value used : ℕ) → IsHeadTaken (was.Length value used) most s → longest < value → Begins begins.TooLong s
  begins_long value used h long = record { read = h.bytes; takes = h.takes; begins = (value, long, h.head_of.0, h.head_of.1) }

  pub begins_bad : IsHeadTaken was.Bad most s → Begins (begins.Broken Malformed) s
  begins_bad h = record { read = h.bytes; takes = h.takes; begins = (BadHead h.head_of.0, tt) }

  pub begins_cut : IsHeadTaken was.Cut most s → Begins (begins.Broken Cut) s
  begins_cut h = record { read = h.bytes; takes = h.takes; begins = (InFirstHead h.head_of.0, h.head_of.2) }

  -- no head is so long
  pub never_past : IsHeadTaken was.Past most s → 20 < most → ⊥
  never_past h long = let few = part_short h.bytes h.head_of.0 in let all = h.head_of.1 in omega arith
