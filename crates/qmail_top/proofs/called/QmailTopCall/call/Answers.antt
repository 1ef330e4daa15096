use Rattle.mem_fs.proofs.InTurn.{told_weaker}
use Rattle.qmail_top.proofs.Lending.{clock_left, disk_left, first_weaker, on_told_weaker, posts_left, sink_left, source_left, spawner_left}
use Rattle.qmail_top.proofs.called.QmailTopCall.call.Goals as goal

pub returns : goal.returns
returns g c =
    let q = c.qmail_alone.ensures in
    let message_is = source_left g.M.Source.left g.M.Source.ended g.M.Source.faults c.args.message.now c.qmail_alone.new.message in
    let envelope_is = source_left g.E.Source.left g.E.Source.ended g.E.Source.faults c.args.envelope.now c.qmail_alone.new.envelope in
    let out_is = sink_left g.O.Sink.taken g.O.Sink.faults c.args.out.now c.qmail_alone.new.out in
    let log_is = sink_left g.L.Sink.taken g.L.Sink.faults c.args.log.now c.qmail_alone.new.log in
    let disk_is = disk_left g.D.CallFs.disk g.D.CallFs.calls g.D.CallFs.faults c.args.disk.now c.qmail_alone.new.disk in
    let clock_is = clock_left g.K.Clock.calls g.K.Clock.last c.args.clock.now c.qmail_alone.new.clock in
    let posts_is = posts_left g.P.Posts.waiting g.P.Posts.calls g.P.Posts.faults c.args.posts.now c.qmail_alone.new.posts in
    let spawn_is = spawner_left g.S.Spawner.children g.S.Spawner.calls g.S.Spawner.faults c.args.spawn.now c.qmail_alone.new.spawn in
    record {
      usage = q.usage;
      no_command = q.no_command;
      usage_line = q.usage_line;
      make = q.make;
      queue = q.queue;
      qmqpd = q.qmqpd;
      qmqpd_beside = λ w is. envelope_is (q.qmqpd_beside w is);
      audit = q.audit;
      audit_unwritten = λ is why. out_is (q.audit_unwritten is why);
      clean = q.clean;
      lspawn = q.lspawn;
      rspawn = q.rspawn;
      send = q.send;
      local = q.local;
      input = q.input;
      output = q.output;
      unfailed = q.unfailed;
      malformed = q.malformed;
      checked = q.checked;
      known = q.known;
      complete = q.complete;
      prints = q.prints;
      few = q.few;
      begins = q.begins;
      refuses = q.refuses;
      reached = λ is. told_weaker (g.M.Source.left c.args.message.now) (g.M.Source.left c.qmail_alone.new.message) (λ script rest may more. first_weaker out_is (may more)) (q.reached is);
      unended = λ is. on_told_weaker (g.M.Source.ended c.qmail_alone.new.message) (λ told may no. first_weaker out_is (may no)) (q.unended is);
      ended = q.ended;
      told_end = q.told_end;
      unread = λ is. message_is (q.unread is);
      unwritten = λ is. out_is (q.unwritten is);
      unprinted = λ told is. out_is (q.unprinted told is);
      unsaid = λ is. out_is (q.unsaid is);
      unlogged = λ other is. log_is (q.unlogged other is);
      disk = λ is. disk_is (q.disk is);
      envelope = λ is. envelope_is (q.envelope is);
      beside = λ told is none. envelope_is (q.beside told is none);
      clock = λ is. clock_is (q.clock is);
      posts = λ is. posts_is (q.posts is);
      spawn = λ is. spawn_is (q.spawn is);
      unworked = λ is. let u = q.unworked is in (u.0, (message_is u.1.0, out_is u.1.1), (disk_is u.2.0, envelope_is u.2.1, clock_is u.2.2));
    }
