use Rattle.std.proofs.Common.{◌≡◌, ℕ, ◌≤◌, ◌++◌, length, drop, ◌∙◌, arith, sym, subst, length-take-le}
use Rattle.std.specs.Option.{option_map}
use Rattle.outside.specs.declared.posts.Post.TheVariants as post
use Rattle.proc_runner.specs.Posted.{IsGiven, left_of}
use Rattle.proc_runner.proofs.Rests.{fills, gives_all, gives_some}
use Rattle.proc_runner.proofs.posts.ChildPosts.give.Goals.{else-from-len, then-from-len}
use Rattle.proc_runner.proofs.posts.ChildPosts.give.Goals as goal

pub returns-clause-given : goal.returns-clause-given
returns-clause-given g c =
    let len : ℕ = c.min-len.result in
    let low : len ≤ length c.args.into.now = omega (arith, c.min-len.ensures) in
    let long : length c.copy_from_slice.new.self ≡ len = c.copy_from_slice.ensures.len ∙ length-take-le len c.args.into.now low in
    let front = fills len c.args.from c.copy_from_slice.new.self (drop len c.args.into.now) c.args.piece.bytes c.copy_from_slice.ensures.after long in
    let room : c.args.count ≤ length c.args.piece.bytes = omega arith in
    elim c.if-from-len.branch [
      | then-from-len w ↦ subst (λ r. IsGiven c.args.piece c.args.from c.args.count (post.Bytes c.args.piece.chan len) (c.copy_from_slice.new.self ++ drop len c.args.into.now) (option_map left_of r)) (sym w.self-is)
          (gives_some c.args.piece c.args.from c.args.count len _ front w.if-from-len.true room)
      | else-from-len w ↦ subst (λ r. IsGiven c.args.piece c.args.from c.args.count (post.Bytes c.args.piece.chan len) (c.copy_from_slice.new.self ++ drop len c.args.into.now) (option_map left_of r)) (sym w.self-is)
          (gives_all c.args.piece c.args.from c.args.count len _ front (omega (arith, c.min-len.ensures, w.if-from-len.false, c.requires.within)) room)
    ]
