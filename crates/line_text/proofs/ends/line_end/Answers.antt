use Rattle.line_text.proofs.LineFeeds.{finds_end}
use Rattle.line_text.proofs.ends.line_end.Goals as goal

pub returns : goal.returns
returns c = finds_end c.args.bytes.now c.memchr.result c.memchr.ensures
