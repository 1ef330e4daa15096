-- Where each record stands, as one recipient more comes.
use Rattle.std.proofs.Common.{◌≡◌, ℕ, List, [], ◌∷◌, ◌++◌, length, Result, Ok, Err, refl, sym, ap, ◌∙◌, subst, append_assoc, append-nil}
use Rattle.std.specs.List.{cons_option}
use Rattle.std.specs.Result.{OnOk}
use Rattle.std.proofs.lemmas.List.{flat_map_more}
use Rattle.std.proofs.lemmas.List.Elements.{filter_map-append}
use Rattle.address_rules.specs.declared.controls.Controls.{Controls}
use Rattle.address_rules.specs.declared.rewriting.Route.{Route}
use Rattle.address_rules.specs.declared.rewriting.Route.TheVariants as route
use Rattle.address_rules.specs.Routes.{address_in, route_of}
use Rattle.envelope_records.specs.Envelope.{record_of}
use Rattle.queue_law.specs.Routes.{channel_of}
use Rattle.send_known.specs.declared.channel.Channel.{Channel}
use Rattle.todo_pass.specs.Places.{place_by}
use Rattle.todo_pass.specs.Sorting.{channel_text, local_of, remote_of, locals_of, remotes_of}
use Rattle.script_disks.specs.declared.routes.Lanes.{Lanes}
use Rattle.script_disks.specs.declared.routes.Routed.{Routed}
use Rattle.script_disks.specs.Routes.{put_there, routed_after, routes_after, routes_in, AreLanes}

-- what holds if all went well
pub on_ok_both : {T E : Type 0} (P Q : Type 0) (r : Result T E) → OnOk r P → OnOk r Q → OnOk r (P × Q)
on_ok_both P Q (Ok x) p q = (p, q)
on_ok_both P Q (Err e) p q = tt

text_push : (addresses : List (List ℕ)) (a : List ℕ) → channel_text (addresses ++ a ∷ []) ≡ channel_text addresses ++ record_of a
text_push addresses a = sym (flat_map_more record_of [] addresses a)

-- one recipient more, on its own channel and on the other one
locals_push : (controls : Controls) (recipients : List (List ℕ)) (r : List ℕ)
    → channel_text (locals_of controls (recipients ++ r ∷ [])) ≡ channel_text (locals_of controls recipients ++ cons_option (local_of (route_of controls r)) [])
locals_push controls recipients r = ap channel_text (filter_map-append (λ a. local_of (route_of controls a)) recipients (r ∷ []))

remotes_push : (controls : Controls) (recipients : List (List ℕ)) (r : List ℕ)
    → channel_text (remotes_of controls (recipients ++ r ∷ [])) ≡ channel_text (remotes_of controls recipients ++ cons_option (remote_of (route_of controls r)) [])
remotes_push controls recipients r = ap channel_text (filter_map-append (λ a. remote_of (route_of controls a)) recipients (r ∷ []))

routes_push : (controls : Controls) (earlier recipients : List (List ℕ)) (r : List ℕ)
    → routes_after controls earlier (recipients ++ r ∷ []) ≡ routes_after controls earlier recipients ++ routed_after controls (earlier ++ recipients) r ∷ []
routes_push controls earlier [] r = ap (λ l. routed_after controls l r ∷ []) (sym (append-nil earlier))
routes_push controls earlier (x ∷ recipients) r =
    ap (λ l. routed_after controls earlier x ∷ l) (routes_push controls (earlier ++ x ∷ []) recipients r
    ∙ ap (λ l. routes_after controls (earlier ++ x ∷ []) recipients ++ routed_after controls l r ∷ []) (append_assoc earlier (x ∷ []) recipients))

routed_as : (controls : Controls) (recipients : List (List ℕ)) (r : List ℕ) (way : Route) → route_of controls r ≡ way
    → routed_after controls recipients r ≡ put_there controls (channel_of way) (place_by controls recipients way) (address_in way)
routed_as controls recipients r way is = ap (λ (w : Route). put_there controls (channel_of w) (place_by controls recipients w) (address_in w)) is

pub added_local : (controls : Controls) (recipients : List (List ℕ)) (r address : List ℕ) (old new : Lanes) → AreLanes controls recipients old → route.Local address ≡ route_of controls r
    → new.local.items ≡ old.local.items ++ record_of address → new.remote ≡ old.remote
    → new.routed.items ≡ old.routed.items ++ put_there controls (channel_of (route.Local address)) (length old.local.items) address ∷ []
    → AreLanes controls (recipients ++ r ∷ []) new
added_local controls recipients r address old new are way text other routed = record {
  local = text ∙ ap (λ (l : List ℕ). l ++ record_of address) are.local ∙ sym (text_push (locals_of controls recipients) address)
      ∙ ap (λ (w : Route). channel_text (locals_of controls recipients ++ cons_option (local_of w) [])) way ∙ sym (locals_push controls recipients r);
  remote = ap (λ v. v.items) other ∙ are.remote ∙ ap channel_text (sym (append-nil (remotes_of controls recipients)))
      ∙ ap (λ (w : Route). channel_text (remotes_of controls recipients ++ cons_option (remote_of w) [])) way ∙ sym (remotes_push controls recipients r);
  routed = routed ∙ ap (λ (l : List Routed). l ++ put_there controls (channel_of (route.Local address)) (length old.local.items) address ∷ []) are.routed
      ∙ ap (λ (t : List ℕ). routes_in controls recipients ++ put_there controls (channel_of (route.Local address)) (length t) address ∷ []) are.local
      ∙ ap (λ (x : Routed). routes_in controls recipients ++ x ∷ []) (sym (routed_as controls recipients r (route.Local address) (sym way)))
      ∙ sym (routes_push controls [] recipients r);
}

pub added_remote : (controls : Controls) (recipients : List (List ℕ)) (r address : List ℕ) (old new : Lanes) → AreLanes controls recipients old → route.Remote address ≡ route_of controls r
    → new.remote.items ≡ old.remote.items ++ record_of address → new.local ≡ old.local
    → new.routed.items ≡ old.routed.items ++ put_there controls (channel_of (route.Remote address)) (length old.remote.items) address ∷ []
    → AreLanes controls (recipients ++ r ∷ []) new
added_remote controls recipients r address old new are way text other routed = record {
  local = ap (λ v. v.items) other ∙ are.local ∙ ap channel_text (sym (append-nil (locals_of controls recipients)))
      ∙ ap (λ (w : Route). channel_text (locals_of controls recipients ++ cons_option (local_of w) [])) way ∙ sym (locals_push controls recipients r);
  remote = text ∙ ap (λ (l : List ℕ). l ++ record_of address) are.remote ∙ sym (text_push (remotes_of controls recipients) address)
      ∙ ap (λ (w : Route). channel_text (remotes_of controls recipients ++ cons_option (remote_of w) [])) way ∙ sym (remotes_push controls recipients r);
  routed = routed ∙ ap (λ (l : List Routed). l ++ put_there controls (channel_of (route.Remote address)) (length old.remote.items) address ∷ []) are.routed
      ∙ ap (λ (t : List ℕ). routes_in controls recipients ++ put_there controls (channel_of (route.Remote address)) (length t) address ∷ []) are.remote
      ∙ ap (λ (x : Routed). routes_in controls recipients ++ x ∷ []) (sym (routed_as controls recipients r (route.Remote address) (sym way)))
      ∙ sym (routes_push controls [] recipients r);
}
