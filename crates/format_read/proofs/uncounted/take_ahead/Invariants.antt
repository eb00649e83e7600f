use Rattle.format_read.proofs.uncounted.take_ahead.Given as goal

-- the ledger that it opens
abbrev pub ghosts-take_on : goal.ghosts-take_on
ghosts-take_on a = record { name = a.ledger.name; parts = a.ledger.parts }
