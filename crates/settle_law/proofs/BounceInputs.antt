-- The envelope of a bounce is one that an injector takes: its two addresses are short enough.
use Rattle.std.proofs.Common.{◌≡◌, ◌⊎◌, inl, inr, ℕ, ◌+◌, ◌≤◌, List, [], ◌∷◌, ◌++◌, length, take, Bool, true, false, Option, Some, None, refl, sym, ap, ◌∙◌, subst, arith, length-append, if◌then◌else◌, bytes_eq, codes, nat_lt, slice_get}
use Rattle.std.specs.Prelude.{◌-◌, ◌==◌, flat_map, nat_eq}
use Rattle.std.specs.List.{ends_with}
use Rattle.std.specs.Option.{option_or}
use Rattle.std.proofs.lemmas.Bool.{leb-true}
use Rattle.std.proofs.lemmas.List.{append-nil, length-take-le, take_all}
use Rattle.std.proofs.lemmas.List.Elements.{All-nil, All-cons, All-append, All-take, All-from_recursion}
use Rattle.address_rules.specs.declared.controls.Controls.{Controls}
use Rattle.address_rules.specs.Nuls.{HaveNoNul}
use Rattle.bounce_record.specs.declared.bounces.Bounce.{Bounce}
use Rattle.bounce_record.specs.Bounces.{bounce_of, return_address, user_at}
use Rattle.envelope_records.specs.Envelope.{IsAddress, Reading, read_envelope, record_of, records_of}
use Rattle.envelope_records.specs.Envelope.Reading.{Whole}
use Rattle.envelope_records.proofs.Envelopes.{read_whole}
use Rattle.queue_inject.specs.declared.injection.Arguments.{Arguments}
use Rattle.queue_inject.specs.declared.injection.InputEnd.{InputEnd}
use Rattle.queue_inject.specs.declared.injection.InputEnd.TheVariants as ends
use Rattle.queue_inject.specs.Causes.{first_fault}
use Rattle.queue_inject.specs.Texts.{entered, envelope_of as envelope_in, envelope_text, intd_text, limit, message_end, message_text}
use Rattle.queue_law.specs.Routes.{sender_of}
use Rattle.world_law.specs.Bounces.{IsBounceOf}
use Rattle.settle_law.proofs.ShortControls.{AreShort}
use Rattle.settle_law.proofs.ShortRoutes.{sender_address}

abbrev IsPlain : ℕ → Type 0
IsPlain b = b ≡ 0 → ⊥

not_nul : (b : ℕ) → (b == 0) ≡ false → IsPlain b
not_nul b e zero = let same : (0 == 0) ≡ false = ap (λ (c : ℕ). c == 0) (sym zero) ∙ e in absurd (cc)

-- The addresses

nil_address : IsAddress []
nil_address = record { short = omega arith; plain = All-nil IsPlain }

nobody : IsAddress (codes "#@[]")
nobody = record {
  short = leb-true (length (codes "#@[]")) 1002 refl;
  plain = All-from_recursion IsPlain (35 ∷ 64 ∷ 91 ∷ 93 ∷ []) (not_nul 35 refl, (not_nul 64 refl, (not_nul 91 refl, (not_nul 93 refl, tt))));
}

cut_address : (t : Bool) (n : ℕ) (sender : List ℕ) → IsAddress sender → n ≤ length sender → IsAddress (if t then take n sender else sender)
cut_address true n sender h low =
    let long = length-take-le n sender low in
    let most = h.short in
    record { short = omega (arith, long, most, low); plain = All-take IsPlain n sender h.plain }
cut_address false n sender h low = h

back_address : (sender : List ℕ) → IsAddress sender → IsAddress (return_address sender)
back_address sender h = cut_address (ends_with nat_eq sender (codes "-@[]")) (length sender - 4) sender h (omega arith)

record HasAddresses (b : Bounce) : Type 0 where
  sender : IsAddress b.sender
  recipient : IsAddress b.recipient

module _ (controls : Controls) (no_nul : HaveNoNul controls) (short : AreShort controls) where
  double_address : IsAddress (user_at controls.double_bounce_to controls.double_bounce_host)
  double_address =
      let user : List ℕ = controls.double_bounce_to in
      let host : List ℕ = controls.double_bounce_host in
      let long : length (user_at user host) ≡ length user + length (64 ∷ host) = length-append user (64 ∷ host) in
      let a = short.double_to in
      let b = short.double_host in
      record {
        short = omega (arith, long, a, b);
        plain = All-append IsPlain user (64 ∷ host) no_nul.double_bounce_to (All-cons IsPlain 64 host (not_nul 64 refl) no_nul.double_bounce_host);
      }

  module _ (notes message : List ℕ) (moment : ℕ) where
    single_has : (t : Bool) (b one : Bounce) → HasAddresses one → (if t then None else Some one) ≡ Some b → HasAddresses b
    single_has true b one has e = absurd (cc)
    single_has false b one has e = let same : one ≡ b = cc in subst HasAddresses same has

    bounce_has : (sender : List ℕ) (b : Bounce) → IsAddress sender
        → bounce_of controls.bounce_from controls.bounce_host controls.double_bounce_to controls.double_bounce_host sender notes message moment ≡ Some b → HasAddresses b
    bounce_has [] b h e = single_has false b _ (record { sender = nobody; recipient = double_address }) e
    bounce_has (c ∷ sender) b h e = single_has (bytes_eq (c ∷ sender) (codes "#@[]")) b _ (record { sender = nil_address; recipient = back_address (c ∷ sender) h }) e

-- The envelope

low_envelope : (s r : List ℕ) → length s ≤ 1002 → length r ≤ 1002 → length (records_of s (r ∷ []) ++ 0 ∷ []) ≤ 1073741824
low_envelope s r low_s low_r =
    let records : List ℕ = records_of s (r ∷ []) in
    let all = length-append records (0 ∷ []) in
    let front = length-append (70 ∷ (s ++ 0 ∷ [])) (flat_map record_of (r ∷ [])) in
    let from = length-append s (0 ∷ []) in
    let one : flat_map record_of (r ∷ []) ≡ record_of r = append-nil (record_of r) in
    let to = ap length one in
    let last = length-append r (0 ∷ []) in
    omega (arith, all, front, from, to, last, low_s, low_r)

module _ (args : Arguments) (s r : List ℕ) (from : IsAddress s) (to : IsAddress r) (is : args.envelope ≡ records_of s (r ∷ []) ++ 0 ∷ []) where
  low : length args.envelope ≤ limit
  low = subst (λ (bytes : List ℕ). length bytes ≤ limit) (sym is) (low_envelope s r from.short to.short)

  read : read_envelope (take limit args.envelope) ≡ Whole s (r ∷ [])
  read = read_whole (take limit args.envelope) s (r ∷ []) (record {
    prefix = args.envelope;
    rest = [];
    split = take_all limit args.envelope low ∙ sym (append-nil args.envelope);
    whole = record { text = is; from = from; to = All-cons IsAddress r [] to (All-nil IsAddress) };
  })

  no_fault : (intd_text args).fault ≡ None
  unfolding intd_text envelope_in
  no_fault = ap (λ (reading : Reading). (envelope_text reading args.envelope_end (slice_get args.envelope limit)).fault) read

-- a message that was read to its end fails only if it is too long
over_by : (t : Bool) (end : InputEnd) → end ≡ ends.Whole → ((if t then Some 31 else message_end end) ≡ None) ⊎ ((if t then Some 31 else message_end end) ≡ Some 31)
over_by true end whole = inr refl
over_by false end whole = inl (ap message_end whole)

message_fault : (args : Arguments) → args.message_end ≡ ends.Whole → ((message_text args).fault ≡ None) ⊎ ((message_text args).fault ≡ Some 31)
unfolding message_text
message_fault args whole = over_by (nat_lt limit (length args.message)) args.message_end whole

-- So the only fault that the input of a bounce may have is that it is too long.
pub bounce_fault : (controls : Controls) → HaveNoNul controls → AreShort controls → (message : Arguments) (notes : List ℕ) (args : Arguments) → IsBounceOf controls message notes args
    → (first_fault args ≡ None) ⊎ (first_fault args ≡ Some 31)
bounce_fault controls no_nul short message notes args it =
    let has = bounce_has controls no_nul short notes (entered message) it.moment (sender_of message) it.bounce (sender_address message) it.made in
    let none = no_fault args it.bounce.sender it.bounce.recipient has.sender has.recipient it.envelope_is in
    by (message_fault args it.message_end) none
  where
    by : ((message_text args).fault ≡ None) ⊎ ((message_text args).fault ≡ Some 31) → (intd_text args).fault ≡ None → (first_fault args ≡ None) ⊎ (first_fault args ≡ Some 31)
    by (inl fine) none = inl (ap (λ (o : Option ℕ). option_or o (intd_text args).fault) fine ∙ none)
    by (inr long) none = inr (ap (λ (o : Option ℕ). option_or o (intd_text args).fault) long)
