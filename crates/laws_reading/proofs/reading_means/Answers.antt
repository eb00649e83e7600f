use Rattle.laws_reading.proofs.Theorem.{reading_sound, reading_complete, reading_refuses}
use Rattle.laws_reading.proofs.reading_means.Goals as goal

pub returns : goal.returns
returns c terms n s source = (reading_sound terms n s source, reading_complete terms n s source, reading_refuses terms n s source)
