-- The head of a netstring, taken byte by byte.
use Rattle.std.proofs.Common.{◌≡◌, ℕ, ◌+◌, ◌≤◌, ◌<◌, List, [], ◌∷◌, ◌++◌, length, Option, refl, sym, ap, subst, arith, length-append}
use Rattle.std.proofs.lemmas.List.{append-nil, length-take-le}
use Rattle.mail_bytes.specs.Decimal.{digits}
use Rattle.mail_bytes.specs.Netstring.{IsHead, IsPartOfHead, IsNoHead}
use Rattle.queue_command.proofs.Heads.{whole_head}
use Rattle.qmqp_server.specs.declared.heads.Head.TheVariants as was
use Rattle.qmqp_server.specs.Sources.{Takes, IsDry}
use Rattle.qmqp_server.specs.inside.Taken.{IsHeadTaken}
use Rattle.qmqp_server.proofs.Taken.{stream, takes_then, dry_earlier}

module _ (a b c : Option (List ℕ)) (f g h : ℕ) (part : List ℕ) (most : ℕ) (took : Takes part (stream a f b g)) where
  pub head_past : IsPartOfHead part → length part ≡ most → IsHeadTaken was.Past most (stream a f b g)
  head_past begins all = record { bytes = part; takes = took; head_of = (begins, all) }

  pub head_cut : IsPartOfHead part → length part < most → Takes [] (stream b g c h) × IsDry (stream b g c h) → IsHeadTaken was.Cut most (stream a f c h)
  head_cut begins few (none, dry) = record {
    bytes = part ++ [];
    takes = takes_then a b c f g h part [] took none;
    head_of = (subst IsPartOfHead (sym (append-nil part)) begins, (let size = ap length (append-nil part) in omega arith), dry_earlier a b c f g h took.counts dry);
  }

  pub head_read : (byte n used : ℕ) → ((m k : ℕ) → ¬ (IsHead part m k)) → length part < most → Takes (byte ∷ []) (stream b g c h) → IsHead (part ++ byte ∷ []) n used
      → IsHeadTaken (was.Length n (length part + 1)) most (stream a f c h)
  head_read byte n used none few one is = record {
    bytes = part ++ byte ∷ [];
    takes = takes_then a b c f g h part (byte ∷ []) took one;
    head_of = (is.fits, whole_head part byte n used none is, (let size = length-append part (byte ∷ []) in omega arith), (let size = length-append part (byte ∷ []) in omega arith));
  }

  pub head_bad : (byte : ℕ) → IsPartOfHead part → length part < most → Takes (byte ∷ []) (stream b g c h) → IsNoHead (part ++ byte ∷ [])
      → IsHeadTaken was.Bad most (stream a f c h)
  head_bad byte begins few one none = record {
    bytes = part ++ byte ∷ [];
    takes = takes_then a b c f g h part (byte ∷ []) took one;
    head_of = (record { part = part; byte = byte; begins = begins; none = none; text = refl }, (let size = length-append part (byte ∷ []) in omega arith));
  }

-- no head begins no bytes
pub empty_is_none : (text : List ℕ) → length text ≡ 0 → (n used : ℕ) → ¬ (IsHead text n used)
empty_is_none text none n used is =
    let size = length-append (digits n) (58 ∷ []) in
    let same = ap length is.text in
    let within = is.within in
    let few = length-take-le used text within in
    omega arith
