use Rattle.asn1_table_relay.proofs.codecs.read_front.Goals as goal

pub returns-in-Uper-clause-only : goal.returns-in-Uper-clause-only
returns-in-Uper-clause-only c = rw c.in-Uper.is c.decode_per.ensures.only

pub returns-in-Aper-clause-only : goal.returns-in-Aper-clause-only
returns-in-Aper-clause-only c = rw c.in-Aper.is c.decode_per-in-Aper.ensures.only

pub returns-in-UperStrict-clause-only : goal.returns-in-UperStrict-clause-only
returns-in-UperStrict-clause-only c = rw c.in-UperStrict.is c.decode_per-in-UperStrict.ensures.only

pub returns-in-AperStrict-clause-only : goal.returns-in-AperStrict-clause-only
returns-in-AperStrict-clause-only c = rw c.in-AperStrict.is c.decode_per-in-AperStrict.ensures.only

pub returns-in-Oer-clause-only : goal.returns-in-Oer-clause-only
returns-in-Oer-clause-only c = rw c.in-Oer.is c.decode_oer.ensures.only

pub returns-in-Coer-clause-only : goal.returns-in-Coer-clause-only
returns-in-Coer-clause-only c = rw c.in-Coer.is c.decode_oer-in-Coer.ensures.only

pub returns-in-Uper-clause-needed : goal.returns-in-Uper-clause-needed
returns-in-Uper-clause-needed c = rw c.in-Uper.is c.decode_per.ensures.needed

pub returns-in-Aper-clause-needed : goal.returns-in-Aper-clause-needed
returns-in-Aper-clause-needed c = rw c.in-Aper.is c.decode_per-in-Aper.ensures.needed

pub returns-in-UperStrict-clause-needed : goal.returns-in-UperStrict-clause-needed
returns-in-UperStrict-clause-needed c = rw c.in-UperStrict.is c.decode_per-in-UperStrict.ensures.needed

pub returns-in-AperStrict-clause-needed : goal.returns-in-AperStrict-clause-needed
returns-in-AperStrict-clause-needed c = rw c.in-AperStrict.is c.decode_per-in-AperStrict.ensures.needed

pub returns-in-Oer-clause-needed : goal.returns-in-Oer-clause-needed
returns-in-Oer-clause-needed c = rw c.in-Oer.is c.decode_oer.ensures.needed

pub returns-in-Coer-clause-needed : goal.returns-in-Coer-clause-needed
returns-in-Coer-clause-needed c = rw c.in-Coer.is c.decode_oer-in-Coer.ensures.needed
