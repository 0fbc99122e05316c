use Rattle.std.proofs.Common.{◌≡◌, length, ◌≤◌, arith}
use Rattle.replay.proofs.Feeding.{replayed, replayed_whole}
use Rattle.replay.specs.declared.Reading.TheVariants.{AtEnd}
use Rattle.replay_lines.specs.Feed.{longest_line}
use Rattle.replay.specs.Feeding.{ReplaysRead}
use Rattle.replay.proofs.run.Goals as goal
use Rattle.replay.proofs.run.Goals.{In_ok-end_input}

done : (g : _) (c : In_ok-end_input g) →
    ReplaysRead (g.R.Read.remaining c.args.reader.now) (g.R.Read.remaining c.read_all.new.reader) (g.W.Write.contents c.args.writer.now) (g.W.Write.contents c.end_input.new.writer)
done g c =
    let room : longest_line ≤ length c.read_all.new.output = omega arith in
    replayed _ _ _ _ _ _ _ room (rw c.begin-replay.ensures at c.in_ok-reading.ensures.answered) c.in_ok-end_input.ensures

pub returns-clause-whole : goal.returns-clause-whole
returns-clause-whole g c = λ e. let h : c.in_ok-reading.reading ≡ AtEnd = cc in
    replayed_whole _ _ _ _ (done g c) (c.in_ok-reading.ensures.end h)

pub returns-clause-answered : goal.returns-clause-answered
returns-clause-answered g c = done g c
