use Rattle.std.proofs.Common.{◌∙◌, ◌<◌, ap, sym, subst, length, arith, map}
use Rattle.outside.specs.Children.{arrivals}
use Rattle.outside.specs.Children.Arrival.{Byte, End, Failed}
use Rattle.outside.specs.Forms.{PostsForm, IsWithin}
use Rattle.outside.proofs.Sent.{sent_one, sent_bytes, sent_from, more_from}
use Rattle.outside.proofs.posts.MemPostsPosts.next.Goals as goal

pub returns-in-Bytes-clause-came : goal.returns-in-Bytes-clause-came
returns-in-Bytes-clause-came c =
    let posts = c.self.inside.posts.items in
    let at = c.next_waiting-at.result.0 in
    let given = c.next_waiting-at.result.1 in
    let value = c.as_slice.ensures.value in
    let inside : at < length posts = omega arith in
    let within : IsWithin (map arrivals posts) at given =
    subst (λ t. IsWithin (map arrivals t) at given) value c.next_waiting-at.ensures.within in
    let held = ap (λ (s : PostsForm). s.waiting) c.self.view_is in
    sent_from posts c.as_slice.result.now at given c.self.inside.at c.self.inside.given c.args.self.now.waiting value held
    c.next_waiting-at.ensures.same
    ∙ sent_bytes posts at given c.copy_prefix-len.result (length c.args.into.now) c.in-Bytes.chan c.index.result.now
    c.as_slice-in-Bytes.result.now c.copy_prefix-len.new.into inside c.index.ensures
    (ap arrivals c.in-Bytes.is ∙ ap (map (Byte c.in-Bytes.chan)) (sym c.as_slice-in-Bytes.ensures))
    within c.copy_prefix-len.ensures.count c.copy_prefix-len.ensures.copied

pub returns-in-End-clause-came : goal.returns-in-End-clause-came
returns-in-End-clause-came c =
    let posts = c.self.inside.posts.items in
    let at = c.next_waiting-at.result.0 in
    let given = c.next_waiting-at.result.1 in
    let value = c.as_slice.ensures.value in
    let inside : at < length posts = omega arith in
    let more = more_from posts c.as_slice.result.now at given value inside c.next_waiting-at.ensures.more in
    let held = ap (λ (s : PostsForm). s.waiting) c.self.view_is in
    sent_from posts c.as_slice.result.now at given c.self.inside.at c.self.inside.given c.args.self.now.waiting value held
    c.next_waiting-at.ensures.same
    ∙ sent_one posts at given c.index.result.now (End c.in-End.chan) inside c.index.ensures (ap arrivals c.in-End.is) more

pub returns-in-Failed-clause-came : goal.returns-in-Failed-clause-came
returns-in-Failed-clause-came c =
    let posts = c.self.inside.posts.items in
    let at = c.next_waiting-at.result.0 in
    let given = c.next_waiting-at.result.1 in
    let value = c.as_slice.ensures.value in
    let inside : at < length posts = omega arith in
    let more = more_from posts c.as_slice.result.now at given value inside c.next_waiting-at.ensures.more in
    let held = ap (λ (s : PostsForm). s.waiting) c.self.view_is in
    sent_from posts c.as_slice.result.now at given c.self.inside.at c.self.inside.given c.args.self.now.waiting value held
    c.next_waiting-at.ensures.same
    ∙ sent_one posts at given c.index.result.now (Failed c.in-Failed.chan) inside c.index.ensures (ap arrivals c.in-Failed.is) more
