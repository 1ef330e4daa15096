-- Where nothing fails the first byte that a sender takes of a spawner is 120.
use Rattle.std.proofs.Common.{◌≡◌, ◌≢◌, ℕ, List, [], ◌∷◌, ◌++◌, take, Bool, true, false, Option, Some, None, refl, sym, ap, ◌∙◌, subst}
use Rattle.std.specs.Prelude.{is_some}
use Rattle.call_fs.specs.declared.past.GotData.{GotData}
use Rattle.call_fs.specs.declared.past.GotData.TheVariants as came
use Rattle.call_fs.specs.declared.past.NeedData.{NeedData}
use Rattle.call_fs.specs.declared.past.NeedData.TheVariants as needs
use Rattle.call_fs.specs.declared.past.Own.{Own}
use Rattle.call_fs.specs.declared.program.Port.TheVariants as port
use Rattle.program_law.specs.Post.Posts.{told_by}
use Rattle.program_law.specs.Post.Senders.{told_on}
use Rattle.send_core.specs.Past.{Account, account, account_by, first_of, happening, took, work}
use Rattle.send_known.specs.declared.channel.Channel.{Channel}
use Rattle.send_known.specs.declared.channel.Channel.TheVariants.{Local, Remote}
use Rattle.send_parts.specs.Channels.{port_of}
use Rattle.spawner_parts.specs.Table.{greeting}
use Rattle.settle_law.proofs.Greeting.{SentAs, StepsFrom, is_greeting, kept_heard, kept_limit, sent_as, took_heard, took_later}
use Rattle.settle_law.proofs.Greeting.SentAs.{Hears, Other}
use Rattle.settle_law.proofs.Greeting.StepsFrom.{Greets, Later, Waits}

-- By the past of the sender and that of the spawner, if they are there, and by what was told and not yet taken.

pub record Greeted (c : Channel) (sends spawns : Option (List Own)) (told : List ℕ) : Type 0 where
  pub both : (past : List Own) → sends ≡ Some past → (mine : List Own) × (spawns ≡ Some mine)
  pub heard : (past : List Own) → sends ≡ Some past → is_some (account c past).heard ≡ true → (account c past).limit ≡ 120
  pub said : (past mine : List Own) → sends ≡ Some past → is_some (account c past).heard ≡ false → spawns ≡ Some mine → is_greeting c mine ≡ false → first_of told ≡ 120
  pub unsaid : (past mine : List Own) → sends ≡ Some past → is_some (account c past).heard ≡ false → spawns ≡ Some mine → is_greeting c mine ≡ true → told ≡ []

one_past : (p q : List Own) → ◌≡◌ {A = Option (List Own)} (Some p) (Some q) → p ≡ q
one_past p q e = cc

first_more : (told more : List ℕ) → first_of told ≡ 120 → first_of (told ++ more) ≡ 120
first_more [] more e = absurd (cc)
first_more (b ∷ told) more e = e

first_taken : (told bytes rest : List ℕ) → told ≡ bytes ++ rest → bytes ≢ [] → first_of told ≡ 120 → first_of bytes ≡ 120
first_taken told [] rest is some first = absurd (some refl)
first_taken told (b ∷ bytes) rest is some first = sym (ap first_of is) ∙ first

taken_none : (told bytes rest : List ℕ) → told ≡ bytes ++ rest → bytes ≢ [] → told ≡ [] → ⊥
taken_none told [] rest is some none = some refl
taken_none told (b ∷ bytes) rest is some none = absurd (cc)

told_more : (due : NeedData) (got : GotData) (wrote : ℕ) (told : List ℕ) → first_of told ≡ 120 → first_of (told_by due got wrote told) ≡ 120
told_more (needs.Give port.Output text) came.Gave wrote told e = first_more told text e
told_more (needs.Give port.Output text) came.Failed wrote told e = first_more told (take wrote text) e
told_more due got wrote told e = e

abbrev pub IsTaken : List ℕ → List ℕ → Type 0
IsTaken told bytes = (bytes ≢ []) × ((rest : List ℕ) × (told ≡ bytes ++ rest))

abbrev after : Channel → List Own → Own → Account
after c past own = account_by (happening own.due own.came (work past) (account Local past).to_mark c) (account c past)

pub took_after : (c : Channel) (past : List Own) (own : Own) (bytes : List ℕ) → own.due ≡ needs.Take (port_of c) → own.came ≡ came.Took bytes
    → after c past own ≡ took (account c past).heard bytes (account c past)
took_after Local past own bytes due got =
    ap (λ (d : NeedData). account_by (happening d own.came (work past) (account Local past).to_mark Local) (account Local past)) due
    ∙ ap (λ (g : GotData). account_by (happening (needs.Take port.Lspawn) g (work past) (account Local past).to_mark Local) (account Local past)) got
took_after Remote past own bytes due got =
    ap (λ (d : NeedData). account_by (happening d own.came (work past) (account Local past).to_mark Remote) (account Remote past)) due
    ∙ ap (λ (g : GotData). account_by (happening (needs.Take port.Rspawn) g (work past) (account Local past).to_mark Remote) (account Remote past)) got

-- An event of the sender
module _ (c : Channel) (past : List Own) (spawns : Option (List Own)) (told : List ℕ) (own : Own) (G : Greeted c (Some past) spawns told)
    (takes : own.due ≡ needs.Take (port_of c) → (bytes : List ℕ) → own.came ≡ came.Took bytes → IsTaken told bytes) where
  first_heard : (bytes : List ℕ) → own.due ≡ needs.Take (port_of c) → own.came ≡ came.Took bytes → is_some (account c past).heard ≡ false → first_of bytes ≡ 120
  first_heard bytes due got none =
      let t = takes due bytes got in
      let m = G.both past refl in
      by t m (is_greeting c m.0) refl
    where
      by : (t : IsTaken told bytes) → (m : (mine : List Own) × (spawns ≡ Some mine)) → (b : Bool) → is_greeting c m.0 ≡ b → first_of bytes ≡ 120
      by t m true e = absurd (taken_none told bytes t.1.0 t.1.1 t.0 (G.unsaid past m.0 refl none m.1 e))
      by t m false e = first_taken told bytes t.1.0 t.1.1 t.0 (G.said past m.0 refl none m.1 e)

  limit_by : (bytes : List ℕ) → own.due ≡ needs.Take (port_of c) → own.came ≡ came.Took bytes → (o : Option (List ℕ)) → (account c past).heard ≡ o → (took o bytes (account c past)).limit ≡ 120
  limit_by bytes due got None e = first_heard bytes due got (ap is_some e)
  limit_by bytes due got (Some before) e = took_later before bytes (account c past) ∙ G.heard past refl (ap is_some e)

  sent_by : SentAs c own.due own.came → Greeted c (Some (own ∷ past)) spawns (told_on c own.due own.came told)
  sent_by (Other untaken still) =
      let it = untaken (work past) (account Local past).to_mark in
      let limit = kept_limit (happening own.due own.came (work past) (account Local past).to_mark c) (account c past) it in
      let heard = ap is_some (kept_heard (happening own.due own.came (work past) (account Local past).to_mark c) (account c past) it) in
      record {
        both = λ p e. G.both past refl;
        heard = λ p e h. by_heard p (one_past (own ∷ past) p e) limit heard h;
        said = λ p mine e h m g. ap first_of (still told) ∙ G.said past mine refl (unheard p (one_past (own ∷ past) p e) heard h) m g;
        unsaid = λ p mine e h m g. still told ∙ G.unsaid past mine refl (unheard p (one_past (own ∷ past) p e) heard h) m g;
      }
    where
      by_heard : (p : List Own) → own ∷ past ≡ p → (account c (own ∷ past)).limit ≡ (account c past).limit → is_some (account c (own ∷ past)).heard ≡ is_some (account c past).heard
          → is_some (account c p).heard ≡ true → (account c p).limit ≡ 120
      by_heard p same limit heard h =
          subst (λ (q : List Own). (account c q).limit ≡ 120) same (limit ∙ G.heard past refl (sym heard ∙ ap (λ (q : List Own). is_some (account c q).heard) same ∙ h))

      unheard : (p : List Own) → own ∷ past ≡ p → is_some (account c (own ∷ past)).heard ≡ is_some (account c past).heard → is_some (account c p).heard ≡ false → is_some (account c past).heard ≡ false
      unheard p same heard h = sym heard ∙ ap (λ (q : List Own). is_some (account c q).heard) same ∙ h
  sent_by (Hears bytes due got) =
      let is = took_after c past own bytes due got in
      let limit : (account c (own ∷ past)).limit ≡ 120 = ap (λ (a : Account). a.limit) is ∙ limit_by bytes due got (account c past).heard refl in
      let heard : is_some (account c (own ∷ past)).heard ≡ true = ap (λ (a : Account). is_some a.heard) is ∙ took_heard (account c past).heard bytes (account c past) in
      record {
        both = λ p e. G.both past refl;
        heard = λ p e h. subst (λ (q : List Own). (account c q).limit ≡ 120) (one_past (own ∷ past) p e) limit;
        said = λ p mine e h m g. absurd (two p (one_past (own ∷ past) p e) heard h);
        unsaid = λ p mine e h m g. absurd (two p (one_past (own ∷ past) p e) heard h);
      }
    where
      two : (p : List Own) → own ∷ past ≡ p → is_some (account c (own ∷ past)).heard ≡ true → is_some (account c p).heard ≡ false → ⊥
      two p same some none = let both : true ≡ false = sym some ∙ ap (λ (q : List Own). is_some (account c q).heard) same ∙ none in absurd (cc)

  pub sent_keeps : Greeted c (Some (own ∷ past)) spawns (told_on c own.due own.came told)
  sent_keeps = sent_by (sent_as c own.due own.came)

-- An event of the spawner
module _ (c : Channel) (sends : Option (List Own)) (mine : List Own) (told : List ℕ) (own : Own) (wrote : ℕ) (G : Greeted c sends (Some mine) told) where
  said_by : StepsFrom c mine own → (own.due ≡ needs.Give port.Output greeting → own.came ≡ came.Gave) → (past : List Own) → sends ≡ Some past → is_some (account c past).heard ≡ false
      → is_greeting c (own ∷ mine) ≡ false → first_of (told_by own.due own.came wrote told) ≡ 120
  said_by (Waits was now quiet) well past is none g = let both : true ≡ false = sym now ∙ g in absurd (cc)
  said_by (Greets was now due) well past is none g =
      let empty = G.unsaid past mine is none refl was in
      ap (λ (d : NeedData). first_of (told_by d own.came wrote told)) due ∙ ap (λ (g : GotData). first_of (told_by (needs.Give port.Output greeting) g wrote told)) (well due)
      ∙ ap (λ (l : List ℕ). first_of (l ++ greeting)) empty
  said_by (Later was now) well past is none g = told_more own.due own.came wrote told (G.said past mine is none refl was)

  unsaid_by : StepsFrom c mine own → (past : List Own) → sends ≡ Some past → is_some (account c past).heard ≡ false → is_greeting c (own ∷ mine) ≡ true → told_by own.due own.came wrote told ≡ []
  unsaid_by (Waits was now quiet) past is none g = quiet own.came wrote told ∙ G.unsaid past mine is none refl was
  unsaid_by (Greets was now due) past is none g = let both : false ≡ true = sym now ∙ g in absurd (cc)
  unsaid_by (Later was now) past is none g = let both : false ≡ true = sym now ∙ g in absurd (cc)

  pub spawned_keeps : StepsFrom c mine own → (own.due ≡ needs.Give port.Output greeting → own.came ≡ came.Gave) → Greeted c sends (Some (own ∷ mine)) (told_by own.due own.came wrote told)
  spawned_keeps step well = record {
    both = λ past is. (own ∷ mine, refl);
    heard = G.heard;
    said = λ past m is none e g. said_by step well past is none (ap (is_greeting c) (one_past (own ∷ mine) m e) ∙ g);
    unsaid = λ past m is none e g. unsaid_by step past is none (ap (is_greeting c) (one_past (own ∷ mine) m e) ∙ g);
  }
