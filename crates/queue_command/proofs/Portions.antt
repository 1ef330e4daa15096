-- What was read of both inputs, and a portion more.
use Rattle.std.proofs.Common.{◌≡◌, ℕ, ◌≤◌, List, [], ◌++◌, length, true, false, Option, Some, None, refl, sym, ap, ◌∙◌, subst, arith}
use Rattle.mail_bytes.specs.Told.{Meets, Rose}
use Rattle.program_runner.proofs.Deeds.{meets_then}
use Rattle.queue_inject.specs.declared.injection.InputEnd.{InputEnd}
use Rattle.queue_inject.specs.declared.injection.InputEnd.TheVariants.{Whole, Unread, Malformed}
use Rattle.queue_inject.specs.declared.injection.Part.{Part}
use Rattle.queue_inject.specs.declared.injection.Part.TheVariants.{Message, Envelope}
use Rattle.queue_inject.specs.Machine.{Machine, asks}
use Rattle.queue_command.specs.declared.input.Form.{Form}
use Rattle.queue_command.specs.declared.input.Form.TheVariants.{Beside, Netstrings}
use Rattle.queue_command.specs.declared.netstring.Place.{Place}
use Rattle.queue_command.specs.declared.netstring.Place.TheVariants.{Head}
use Rattle.queue_command.specs.Inputs.{Portion, Heard, Stream, unread, most, is_whole, IsReadIn, IsReadNet, AreReadNets, AreTaken, AreRead, IsBoundedBy, IsBounded}
use Rattle.queue_command.specs.Feeding.{IsFed, Feeds, FeedsBy, IsLeft}
use Rattle.queue_command.proofs.Sources.{same, ends_none, ends_earlier}
use Rattle.queue_command.proofs.Keeping.{Keeps, heard_of, heard_on, joined, open_to, fed_size}

abbrev stream : Option (List ℕ) → ℕ → Option (List ℕ) → ℕ → Stream
stream a f b g = record { old = a; new = b; faults_old = f; faults_new = g }

-- Nothing was read yet

pub nothing_read : (form : Form) (from beside : Option (List ℕ)) (f g : ℕ) → AreRead form Head (stream from f from f) (stream beside g beside g) (record { message = unread; envelope = unread })
nothing_read form from beside f g = record {
  taken = taken form;
  in_turn = λ e. (refl, refl);
  message_short = omega arith;
  envelope_short = omega arith;
} where
  taken : (form : Form) → AreTaken form Head (stream from f from f) (stream beside g beside g) (record { message = unread; envelope = unread })
  taken Beside = (same _ from (λ x. refl), same _ beside (λ x. refl), ends_none Beside _, ends_none Beside _)
  taken Netstrings = (same _ from (λ x. (refl, refl)), refl)

-- An input is read on

-- what was read of one source, and a portion more
read_on : (form : Form) (p q : Place) (m n : Machine) (a b c : Option (List ℕ)) (f g h : ℕ) (old : Portion) → f ≤ g → old.end ≡ None
    → (x : Feeds form p q m n (stream b g c h)) → Meets a b (λ before mid. IsReadIn form p old.end before mid old.bytes (Rose f g))
    → Meets a c (λ before after. IsReadIn form q x.portion.end before after (old.bytes ++ x.portion.bytes) (Rose f h))
read_on form p q m n a b c f g h old counts going x read =
    meets_then _ _ _ (λ before mid after r t. t f before old.bytes counts (subst (λ e. IsReadIn form p e before mid old.bytes (Rose f g)) going r)) a b c read x.told

nets_by : (end : Option InputEnd) (q : Place) (message envelope : Portion) (before after : List ℕ) (F : Type 0) → message.end ≡ end → envelope ≡ unread
    → IsReadNet q end before after message.bytes F → AreReadNets (is_whole end) q (record { message = message; envelope = envelope }) before after F
nets_by None q message envelope before after F is none r = subst (λ e. IsReadNet q e before after message.bytes F) (sym is) r
nets_by (Some Whole) q message envelope before after F is none r =
    (after, r.1, subst (λ (e : Portion). IsReadNet q e.end after after e.bytes F) (sym none) (subst (λ p. IsReadNet p None after after [] F) (sym r.0) (refl, refl)))
nets_by (Some Unread) q message envelope before after F is none r = subst (λ e. IsReadNet q e before after message.bytes F) (sym is) r
nets_by (Some Malformed) q message envelope before after F is none r = subst (λ e. IsReadNet q e before after message.bytes F) (sym is) r

-- the message is malformed no more, nor unread, while its envelope is read
whole_nets : (end : Option InputEnd) (p : Place) (heard : Heard) (before after : List ℕ) (F : Type 0) → end ≡ Some Whole
    → AreReadNets (is_whole end) p heard before after F → AreReadNets true p heard before after F
whole_nets end p heard before after F is r = subst (λ e. AreReadNets (is_whole e) p heard before after F) is r

from_whole : (end : Option InputEnd) (p : Place) (heard : Heard) (before after : List ℕ) (F : Type 0) → end ≡ Some Whole
    → AreReadNets true p heard before after F → AreReadNets (is_whole end) p heard before after F
from_whole end p heard before after F is r = subst (λ e. AreReadNets (is_whole e) p heard before after F) (sym is) r

module _ (p q : Place) (m n : Machine) (from0 from1 from2 beside0 beside1 beside2 : Option (List ℕ)) (f0 f1 f2 g0 g1 g2 : ℕ) (heard : Heard) where
  message_alone : f0 ≤ f1 → heard.message.end ≡ None → (x : Feeds Beside Head Head m n (stream from1 f1 from2 f2)) → IsLeft (stream beside1 g1 beside2 g2)
      → AreTaken Beside p (stream from0 f0 from1 f1) (stream beside0 g0 beside1 g1) heard
      → AreTaken Beside q (stream from0 f0 from2 f2) (stream beside0 g0 beside2 g2) (heard_on Message heard x.portion)
  message_alone counts going x left (from, beside, ends, ends_beside) =
      subst (λ b. AreTaken Beside q (stream from0 f0 from2 f2) (stream beside0 g0 b g2) (heard_on Message heard x.portion)) (sym left.left)
      (subst (λ g. AreTaken Beside q (stream from0 f0 from2 f2) (stream beside0 g0 beside1 g) (heard_on Message heard x.portion)) (sym left.faults) (
        read_on Beside Head Head m n from0 from1 from2 f0 f1 f2 heard.message counts going x from,
        beside,
        ends_earlier Beside x.portion.end from0 from1 from2 f0 f1 f2 counts x.ends,
        ends_beside,
      ))

  envelope_alone : g0 ≤ g1 → heard.envelope.end ≡ None → IsLeft (stream from1 f1 from2 f2) → (x : Feeds Beside Head Head m n (stream beside1 g1 beside2 g2))
      → AreTaken Beside p (stream from0 f0 from1 f1) (stream beside0 g0 beside1 g1) heard
      → AreTaken Beside q (stream from0 f0 from2 f2) (stream beside0 g0 beside2 g2) (heard_on Envelope heard x.portion)
  envelope_alone counts going left x (from, beside, ends, ends_beside) =
      subst (λ b. AreTaken Beside q (stream from0 f0 b f2) (stream beside0 g0 beside2 g2) (heard_on Envelope heard x.portion)) (sym left.left)
      (subst (λ f. AreTaken Beside q (stream from0 f0 from1 f) (stream beside0 g0 beside2 g2) (heard_on Envelope heard x.portion)) (sym left.faults) (
        from,
        read_on Beside Head Head m n beside0 beside1 beside2 g0 g1 g2 heard.envelope counts going x beside,
        ends,
        ends_earlier Beside x.portion.end beside0 beside1 beside2 g0 g1 g2 counts x.ends,
      ))

  message_net : f0 ≤ f1 → heard.message.end ≡ None → heard.envelope ≡ unread → (x : Feeds Netstrings p q m n (stream from1 f1 from2 f2)) → IsLeft (stream beside1 g1 beside2 g2)
      → AreTaken Netstrings p (stream from0 f0 from1 f1) (stream beside0 g0 beside1 g1) heard
      → AreTaken Netstrings q (stream from0 f0 from2 f2) (stream beside0 g0 beside2 g2) (heard_on Message heard x.portion)
  message_net counts going none x left (from, beside) = (
    meets_then _ _ _ (λ before mid after r t.
        nets_by x.portion.end q (joined heard.message x.portion) heard.envelope before after (Rose f0 f2) refl none
        (t f0 before heard.message.bytes counts
        (subst (λ e. IsReadNet p e before mid heard.message.bytes (Rose f0 f1)) going (subst (λ e. AreReadNets (is_whole e) p heard before mid (Rose f0 f1)) going r))))
        from0 from1 from2 from x.told,
    left.left ∙ beside,
  )

  envelope_net : f0 ≤ f1 → heard.message.end ≡ Some Whole → heard.envelope.end ≡ None → (x : Feeds Netstrings p q m n (stream from1 f1 from2 f2)) → IsLeft (stream beside1 g1 beside2 g2)
      → AreTaken Netstrings p (stream from0 f0 from1 f1) (stream beside0 g0 beside1 g1) heard
      → AreTaken Netstrings q (stream from0 f0 from2 f2) (stream beside0 g0 beside2 g2) (heard_on Envelope heard x.portion)
  envelope_net counts whole going x left (from, beside) = (
    meets_then _ _ _ (λ before mid after r t.
        let nets = whole_nets heard.message.end p heard before mid (Rose f0 f1) whole r in
        from_whole heard.message.end q (heard_on Envelope heard x.portion) before after (Rose f0 f2) whole
        (nets.0, nets.1, t f0 nets.0 heard.envelope.bytes counts (subst (λ e. IsReadNet p e nets.0 mid heard.envelope.bytes (Rose f0 f1)) going nets.2)))
        from0 from1 from2 from x.told,
    left.left ∙ beside,
  )

-- Whatever was fed

-- a portion was fed of this part, and both sources tell so
pub record IsHeardOn (form : Form) (q : Place) (n : Machine) (part : Part) (heard : Heard) (m : Machine) (from beside : Stream) : Type 0 where
  pub more : Portion
  pub fed : IsFed m n more.end more.bytes
  pub read : AreRead form q from beside (heard_on part heard more)

module _ (form : Form) (p q : Place) (m n : Machine) (from0 from1 from2 beside0 beside1 beside2 : Option (List ℕ)) (f0 f1 f2 g0 g1 g2 : ℕ) (heard : Heard)
    (early : f0 ≤ f1) (earlier : g0 ≤ g1) (k : Keeps m heard) (read : AreRead form p (stream from0 f0 from1 f1) (stream beside0 g0 beside1 g1) heard) where
  short : (part : Part) (more : Portion) → asks m ≡ Some part → IsBounded (heard_of part heard) → IsFed m n more.end more.bytes → IsBounded (joined (heard_of part heard) more)
  short part more e before fed =
      let was = (open_to m heard part e k).1 in
      let bound : length (heard_of part heard).bytes ≤ most = subst (λ end. IsBoundedBy end (length (heard_of part heard).bytes)) was.0 before in
      subst (λ count. IsBoundedBy more.end count) (fed_size m n heard part more e k fed) (fed.short (let size = was.1 in omega arith))

  message_on : asks m ≡ Some Message → (more : Portion) → IsFed m n more.end more.bytes → IsLeft (stream beside1 g1 beside2 g2)
      → AreTaken form q (stream from0 f0 from2 f2) (stream beside0 g0 beside2 g2) (heard_on Message heard more)
      → IsHeardOn form q n Message heard m (stream from0 f0 from2 f2) (stream beside0 g0 beside2 g2)
  message_on e more fed left taken = record {
    more = more;
    fed = fed;
    read = record {
      taken = taken;
      in_turn = λ is. let was = open_to m heard Message e k in (was.0, left.left ∙ (read.in_turn (ap is_whole was.1.0)).1);
      message_short = short Message more e read.message_short fed;
      envelope_short = read.envelope_short;
    };
  }

  envelope_on : asks m ≡ Some Envelope → (more : Portion) → IsFed m n more.end more.bytes
      → AreTaken form q (stream from0 f0 from2 f2) (stream beside0 g0 beside2 g2) (heard_on Envelope heard more)
      → IsHeardOn form q n Envelope heard m (stream from0 f0 from2 f2) (stream beside0 g0 beside2 g2)
  envelope_on e more fed taken = record {
    more = more;
    fed = fed;
    read = record {
      taken = taken;
      in_turn = λ is. let whole = ap is_whole (open_to m heard Envelope e k).0 in let no : true ≡ false = sym whole ∙ is in absurd (cc);
      message_short = read.message_short;
      envelope_short = short Envelope more e read.envelope_short fed;
    };
  }

pub feeds_on : (form : Form) (part : Part) (p q : Place) (m n : Machine) (from0 from1 from2 beside0 beside1 beside2 : Option (List ℕ)) (f0 f1 f2 g0 g1 g2 : ℕ) (heard : Heard)
    → f0 ≤ f1 → g0 ≤ g1 → asks m ≡ Some part → Keeps m heard → AreRead form p (stream from0 f0 from1 f1) (stream beside0 g0 beside1 g1) heard
    → FeedsBy (Some part) form p q m n (stream from1 f1 from2 f2) (stream beside1 g1 beside2 g2)
    → IsHeardOn form q n part heard m (stream from0 f0 from2 f2) (stream beside0 g0 beside2 g2)
feeds_on Beside Message p q m n from0 from1 from2 beside0 beside1 beside2 f0 f1 f2 g0 g1 g2 heard early earlier e k read (x, left) =
    message_on Beside p q m n from0 from1 from2 beside0 beside1 beside2 f0 f1 f2 g0 g1 g2 heard early earlier k read e x.portion x.fed left
    (message_alone p q m n from0 from1 from2 beside0 beside1 beside2 f0 f1 f2 g0 g1 g2 heard early (open_to m heard Message e k).1.0 x left read.taken)
feeds_on Beside Envelope p q m n from0 from1 from2 beside0 beside1 beside2 f0 f1 f2 g0 g1 g2 heard early earlier e k read (left, x) =
    envelope_on Beside p q m n from0 from1 from2 beside0 beside1 beside2 f0 f1 f2 g0 g1 g2 heard early earlier k read e x.portion x.fed
    (envelope_alone p q m n from0 from1 from2 beside0 beside1 beside2 f0 f1 f2 g0 g1 g2 heard earlier (open_to m heard Envelope e k).1.0 left x read.taken)
feeds_on Netstrings Message p q m n from0 from1 from2 beside0 beside1 beside2 f0 f1 f2 g0 g1 g2 heard early earlier e k read (x, left) =
    message_on Netstrings p q m n from0 from1 from2 beside0 beside1 beside2 f0 f1 f2 g0 g1 g2 heard early earlier k read e x.portion x.fed left
    (message_net p q m n from0 from1 from2 beside0 beside1 beside2 f0 f1 f2 g0 g1 g2 heard early (open_to m heard Message e k).1.0 (open_to m heard Message e k).0 x left read.taken)
feeds_on Netstrings Envelope p q m n from0 from1 from2 beside0 beside1 beside2 f0 f1 f2 g0 g1 g2 heard early earlier e k read (x, left) =
    envelope_on Netstrings p q m n from0 from1 from2 beside0 beside1 beside2 f0 f1 f2 g0 g1 g2 heard early earlier k read e x.portion x.fed
    (envelope_net p q m n from0 from1 from2 beside0 beside1 beside2 f0 f1 f2 g0 g1 g2 heard early (open_to m heard Envelope e k).0 (open_to m heard Envelope e k).1.0 x left read.taken)

-- its row stays
pub row_fed : (o : Option Part) (form : Form) (p q : Place) (m n : Machine) (from beside : Stream) → FeedsBy o form p q m n from beside → n.row ≡ m.row
row_fed None form p q m n from beside (machine, place, one, two) = ap (λ (x : Machine). x.row) machine
row_fed (Some Message) Beside p q m n from beside (x, left) = ap (λ (k : Machine). k.row) x.fed.rest
row_fed (Some Envelope) Beside p q m n from beside (left, x) = ap (λ (k : Machine). k.row) x.fed.rest
row_fed (Some Message) Netstrings p q m n from beside (x, left) = ap (λ (k : Machine). k.row) x.fed.rest
row_fed (Some Envelope) Netstrings p q m n from beside (x, left) = ap (λ (k : Machine). k.row) x.fed.rest
