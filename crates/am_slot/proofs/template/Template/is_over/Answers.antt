use Rattle.am_slot.proofs.template.Template.is_over.Goals as goal

pub returns : goal.returns
returns c = rw (← c.self.view_is) c.are_over.ensures
