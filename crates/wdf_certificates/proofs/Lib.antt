mod OneCertifying
mod OneChecking
mod OneLoading
mod StageLemmas
mod StateLemmas
mod TextLemmas
