-- What the functions compute of places, which the definitions above them do not name.
pub mod Places
