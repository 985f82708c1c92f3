use Rattle.foyer_block_recover.proofs.ForgottenLemmas.{marks_forget, marks_forget_unseen}
use Rattle.foyer_block_recover.proofs.laws.marks_forget.Goals as goal

pub returns-clause-seen : goal.returns-clause-seen
returns-clause-seen c = marks_forget

pub returns-clause-unseen : goal.returns-clause-unseen
returns-clause-unseen c = marks_forget_unseen
